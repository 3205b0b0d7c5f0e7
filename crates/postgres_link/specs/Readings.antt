-- What a reading finds: the one thing that is so, or that nothing is.
use Rattle.std.specs.Prelude.{◌≡◌, ℕ, List, Option, Some, None}
use Rattle.pg_values.specs.declared.col_type.ColType.{ColType}
use Rattle.pg_values.specs.declared.value.Value.{Value}
use Rattle.postgres_link.specs.Asked.{IsCell, AreCells, IsUnread, HasUnread}
use Rattle.postgres_link.specs.declared.row.Cell.{Cell}
use Rattle.postgres_link.specs.declared.row.Cell.TheVariants as cell
use Rattle.postgres_link.specs.declared.row.Cells.{Cells}
use Rattle.postgres_link.specs.declared.row.Cells.TheVariants as cells

abbrev pub IsReading : {A : Type 0} → (A → Type 0) → Option A → Type 0
IsReading {A} P (Some found) = P found × ((other : A) → P other → other ≡ found)
IsReading {A} P None = (other : A) → P other → ⊥

-- a text is this one value of its type, or none
abbrev pub IsCellReading : ColType → Option (List ℕ) → Cell → Type 0
IsCellReading kind text (cell.Value found) = IsReading (IsCell kind text) (Some found)
IsCellReading kind text (cell.Unread code) = IsUnread kind text code.bytes

-- the texts of a row are these values, have one that is none of its type, or are no row of these columns
abbrev pub IsRowReading : List ColType → List (Option (List ℕ)) → Cells → Type 0
IsRowReading kinds texts (cells.Values found) = IsReading (AreCells kinds texts) (Some found)
IsRowReading kinds texts (cells.Unread code) = HasUnread kinds texts code.bytes
IsRowReading kinds texts cells.Miscounted = ((found : List Value) → AreCells kinds texts found → ⊥) × ((code : List ℕ) → HasUnread kinds texts code → ⊥)

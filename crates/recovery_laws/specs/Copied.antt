-- What a copy of a table reads, and what its target sees while the rows come in.
use Rattle.std.specs.Prelude.{◌≡◌, ◌==◌, ◌-◌, if◌then◌else◌, ℕ, Bool, false, List, [], ◌∷◌, length, map, take, slice_get, Option, Some, None}
use Rattle.std.specs.FinMap as fin
use Rattle.std.specs.Ordering.{is_eq}
use Rattle.pg_values.specs.declared.value.Value.{Value}
use Rattle.schema.specs.declared.catalogue.TableDef.{TableDef}
use Rattle.sql_eval.specs.declared.row.Row.{Row}
use Rattle.sql_eval.specs.Views.{Entry, cell_at, entries_in, key_column}
use Rattle.sql_eval.specs.Ordered.{ordered}
use Rattle.backend_trait.specs.declared.request.Request.{Request}
use Rattle.backend_trait.specs.declared.answer.Answer.{Answer}
use Rattle.backend_trait.specs.Keys.{Place, key_order}
use Rattle.backend_trait.specs.Rows.{Rows}
use Rattle.backend_trait.specs.Store.{Alive, Live, Store, is_refusal, settled, view_of}
use Rattle.backend_trait.specs.Acts.{MayAnswer}
use Rattle.online_recovery.specs.Copies.{by_key, key_of}

-- the rows of a table that are seen, as a copy reads them: in the order of the table's key, Null last
abbrev pub entries_copied : List TableDef → Rows → ℕ → List Entry
entries_copied tables view table = ordered (by_key (key_of (slice_get tables table))) (entries_in view table)

abbrev pub rows_copied : List TableDef → Rows → ℕ → List Row
rows_copied tables view table = map (λ (e : Entry). e.row) (entries_copied tables view table)

-- the row of a list that has a key in its column
abbrev pub row_under : ℕ → Value → List Row → Option Row
row_under column key [] = None
row_under column key (row ∷ rows) = if is_eq (key_order key (cell_at column row)) then Some row else row_under column key rows

-- these rows in one table, and in every other what was there before
abbrev pub with_rows : List TableDef → ℕ → List Row → Rows → Place → Option Row
with_rows tables table rows before p =
    if p.table == table then row_under (key_column (slice_get tables table)) p.key rows else fin.get before p

-- what is seen where so many of a list of rows are still to come into a table
abbrev pub IsFilled : List TableDef → ℕ → List Row → ℕ → Rows → Rows → Type 0
IsFilled tables table rows left before view =
    (p : Place) → fin.get view p ≡ with_rows tables table (take (length rows - left) rows) before p

-- one table is as in the source, and every other as before
abbrev pub IsCopied : ℕ → Rows → Rows → Rows → Type 0
IsCopied table source before view =
    (p : Place) → fin.get view p ≡ (if p.table == table then fin.get source p else fin.get before p)

-- a request of a session with a live transaction has an answer that the store may give, and that is no refusal
pub record Grants (st : Store) (s : ℕ) (t : Live) (request : Request) (answer : Answer) : Type 0 where
  pub crossed : Bool
  pub live : st.transaction s ≡ Alive t
  pub may : MayAnswer st s (record { request = request; crossed = crossed }) answer
  pub given : is_refusal answer ≡ false

-- an answer leaves the store as it was, but for the session's transaction: that is on its base still, and sees this
pub record Leaves (old : Store) (s : ℕ) (t : Live) (Sees : Rows → Type 0) (new : Store) : Type 0 where
  pub live : Live
  pub left : new ≡ settled old s (Alive live)
  pub base : live.base ≡ t.base
  pub sees : Sees (view_of live)

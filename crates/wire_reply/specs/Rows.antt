-- Columns and rows of a result as messages.
use Rattle.std.specs.Prelude.{All, ◌≡◌, ◌≢◌, ℕ, ℤ, pos, neg_ℤ, ◌+◌, List, [], ◌∷◌, ◌++◌, Option, get_or}
use Rattle.pg_values.specs.declared.col_type.ColType.{ColType}
use Rattle.pg_values.specs.declared.col_type.ColType.TheVariants as kind
use Rattle.pg_values.specs.declared.value.Value.{Value}
use Rattle.pg_values.specs.Kinds.{oid_number}
use Rattle.pg_values.specs.Binary.{binary_form}
use Rattle.pg_values.specs.Text.{IsTextOf}
use Rattle.pg_messages.specs.declared.server.Field.{Field}
use Rattle.pg_messages.specs.declared.server.ServerMessage.{ServerMessage}
use Rattle.pg_messages.specs.declared.server.ServerMessage.TheVariants.{RowDescription, NoData, DataRow}
use Rattle.pg_messages.specs.Server.{spelling, Fits}
use Rattle.pg_values.specs.Range.{IsInRange}
use Rattle.sql_eval.specs.declared.row.Row.{Row}
use Rattle.catalogue.specs.declared.checked.ColumnDesc.{ColumnDesc}

-- with no format all are texts, with one all have that one, else each has its own
abbrev pub format_at : List ℕ → ℕ → ℕ
format_at [] at = 0
format_at (one ∷ []) at = one
format_at (one ∷ two ∷ more) at = get_or (one ∷ two ∷ more) at 0

-- the bytes of a value of the type, or -1
abbrev pub size_of : ColType → ℤ
size_of kind.Bool = pos 1
size_of kind.Int4 = pos 4
size_of kind.Int8 = pos 8
size_of kind.Text = neg_ℤ (pos 1)
size_of kind.Moment = pos 8

abbrev pub field_of : ColumnDesc → ℕ → Field
field_of column format = record { name = column.name; table = 0; column = pos 0; kind = oid_number column.kind; size = size_of column.kind; modifier = neg_ℤ (pos 1); format = format }

-- the fields of columns from that number on
abbrev pub fields_from : List ℕ → ℕ → List ColumnDesc → List Field
fields_from formats at [] = []
fields_from formats at (column ∷ columns) = field_of column (format_at formats at) ∷ fields_from formats (at + 1) columns

-- a value in its format: 1 is the binary form, another the text form; None is null
abbrev pub IsCell : ℕ → Value → Option (List ℕ) → Type 0
IsCell format value cell = (format ≡ 1 → cell ≡ binary_form value) × (format ≢ 1 → IsTextOf value cell)

-- each value of the rows is in its range
abbrev pub AreInRange : List Row → Type 0
AreInRange rows = All (λ row. All IsInRange row.cells) rows

-- the cells of a row from that number on, each in its format
abbrev pub AreCells : List ℕ → ℕ → List Value → List (Option (List ℕ)) → Type 0
AreCells formats at [] [] = Unit {0}
AreCells formats at [] (cell ∷ cells) = ⊥
AreCells formats at (value ∷ values) [] = ⊥
AreCells formats at (value ∷ values) (cell ∷ cells) = IsCell (format_at formats at) value cell × AreCells formats (at + 1) values cells

-- the bytes of a message; of one that does not fit, nothing
pub record IsMessage (m : ServerMessage) (bytes : List ℕ) : Type 0 where
  pub whole : Fits m → bytes ≡ spelling m
  pub nothing : ¬ (Fits m) → bytes ≡ []

-- the DataRow of a row in these formats
pub record IsRow (formats : List ℕ) (row : Row) (bytes : List ℕ) : Type 0 where
  pub cells : List (Option (List ℕ))
  pub are_cells : AreCells formats 0 row.cells cells
  pub is : IsMessage (DataRow cells) bytes

-- the DataRows of rows in these formats, one behind another
abbrev pub AreRows : List ℕ → List Row → List ℕ → Type 0
AreRows formats [] bytes = bytes ≡ []
AreRows formats (row ∷ rows) bytes = (one : List ℕ) × (rest : List ℕ) × IsRow formats row one × AreRows formats rows rest × (bytes ≡ one ++ rest)

-- the columns of a result in these formats, or that there are none
abbrev pub description : List ℕ → List ColumnDesc → ServerMessage
description formats [] = NoData
description formats (column ∷ columns) = RowDescription (fields_from formats 0 (column ∷ columns))

-- INSERT: first it draws; then each row in turn, its cells, NOT NULL, its key, its size.
use Rattle.std.specs.Prelude.{◌+◌, ◌++◌, ◌||◌, nat_lt, ℕ, zero, suc, ℤ, pos, ◌+ℤ◌, int_lt, Bool as Truth, true, false, List, [], ◌∷◌, map, sum, is_some, slice_get, Option, Some, None, Result, Ok, Err, if◌then◌else◌, codes}
use Rattle.std.specs.List.{list_any}
use Rattle.std.specs.FinMap as fin
use Rattle.std.specs.Ordering.{is_eq}
use Rattle.pg_values.specs.declared.col_type.ColType.{ColType}
use Rattle.pg_values.specs.declared.col_type.ColType.TheVariants as kind
use Rattle.pg_values.specs.declared.value.Value.{Value}
use Rattle.pg_values.specs.declared.value.Value.TheVariants as value
use Rattle.schema.specs.declared.catalogue.ColumnDef.{ColumnDef}
use Rattle.schema.specs.declared.catalogue.TableDef.{TableDef}
use Rattle.catalogue.specs.declared.checked.CheckedInsert.{CheckedInsert}
use Rattle.catalogue.specs.declared.checked.TypedCell.{TypedCell}
use Rattle.catalogue.specs.declared.checked.TypedCell.TheVariants as cell
use Rattle.sql_values.specs.Outcome.{Outcome}
use Rattle.sql_values.specs.Order.{standing}
use Rattle.sql_values.specs.Meaning.{Around, value_in}
use Rattle.sql_eval.specs.declared.row.Row.{Row}
use Rattle.sql_eval.specs.declared.effect.Change.{Change}
use Rattle.sql_eval.specs.Views.{View, place, cell_at, columns_of, key_column, serial_column}
use Rattle.sql_eval.specs.Walks.{Coded, behind, made, all_of}
use Rattle.sql_eval.specs.Reads.{at_row, no_row, fitting, row_of}
use Rattle.sql_eval.specs.Stored.{changed, as_kind, not_lacking, kind_at}

-- ---- draws

abbrev pub draws_in : TypedCell → ℕ
draws_in cell.Serial = 1
draws_in cell.Now = 0
draws_in (cell.Given e) = 0

abbrev pub row_draws : List TypedCell → ℕ
row_draws cells = sum (map draws_in cells)

-- a number for each cell that stands for one
abbrev pub all_draws : List (List TypedCell) → ℕ
all_draws rows = sum (map row_draws rows)

-- the last number of a serial column
abbrev pub last_serial : Option ColType → ℤ
last_serial (Some kind.Int4) = pos 2147483647
last_serial k = pos 9223372036854775806

abbrev pub serial_kind : Option TableDef → Option ColType
serial_kind table = elim (serial_column table) [ None ↦ None | Some column ↦ kind_at (columns_of table) column ]

-- from the next number on there are too few
abbrev pub is_spent : ℤ → ℤ → ℕ → Truth
is_spent last next zero = false
is_spent last next (suc more) = int_lt last (next +ℤ pos more)

abbrev pub spent : List ℕ
spent = codes "2200H"

-- ---- cells

abbrev pub cell_value : Around → ColType → ℤ → TypedCell → Outcome
cell_value around k next cell.Serial = as_kind k (value.Int8 next)
cell_value around k next cell.Now = Ok (value.Moment around.moment)
cell_value around k next (cell.Given e) = behind (value_in (at_row around no_row) e) (as_kind k)

-- a cell for each column; each cell that draws takes the next number
abbrev pub cell_values : Around → List ColumnDef → ℤ → List TypedCell → List Outcome
cell_values around [] next cells = []
cell_values around (column ∷ columns) next [] = []
cell_values around (column ∷ columns) next (c ∷ cells) =
    cell_value around column.kind next c ∷ cell_values around columns (next +ℤ pos (draws_in c)) cells

-- the cells from left to right, and NOT NULL
abbrev pub cells_given : Around → List ColumnDef → ℤ → List TypedCell → Coded (List Value)
cells_given around columns next cells = behind (all_of (cell_values around columns next cells)) (not_lacking columns)

-- ---- keys

abbrev pub key_refused : List ℕ
key_refused = codes "23505"

-- a row of the view or an earlier row has the key
abbrev pub is_taken : View → ℕ → List Value → Value → Truth
is_taken view table earlier key = is_some (fin.get view (place table key)) || list_any (λ k. is_eq (standing k key)) earlier

abbrev pub unless_taken : Truth → Row → Coded Row
unless_taken taken row = if taken then Err key_refused else fitting row

-- ---- rows

-- what a row puts in, behind those with these keys
abbrev pub row_put_in : Around → View → ℕ → List ColumnDef → ℕ → List Value → ℤ → List TypedCell → Coded Change
row_put_in around view table columns key earlier next cells =
    behind (cells_given around columns next cells) (λ values.
    made (λ row. changed table (cell_at key row) (Some row))
    (unless_taken (is_taken view table earlier (cell_at key (row_of values))) (row_of values)))

-- the rows in order, behind those with these keys
abbrev pub rows_given : Around → View → ℕ → List ColumnDef → ℕ → List Value → ℤ → List (List TypedCell) → Coded (List Change)
rows_given around view table columns key earlier next [] = Ok []
rows_given around view table columns key earlier next (cells ∷ rows) =
    behind (row_put_in around view table columns key earlier next cells) (λ change.
    made (λ others. change ∷ others)
    (rows_given around view table columns key (earlier ++ change.key ∷ []) (next +ℤ pos (row_draws cells)) rows))

abbrev pub insert_in : Around → View → Option TableDef → ℤ → CheckedInsert → Coded (List Change)
insert_in around view table next insert =
    if is_spent (last_serial (serial_kind table)) next (all_draws insert.rows) then Err spent
    else rows_given around view insert.table (columns_of table) (key_column table) [] next insert.rows

-- what is drawn hangs on the statement and the next number alone
abbrev pub insert_draws : Option TableDef → ℤ → CheckedInsert → ℕ
insert_draws table next insert =
    if is_spent (last_serial (serial_kind table)) next (all_draws insert.rows) then 0 else all_draws insert.rows

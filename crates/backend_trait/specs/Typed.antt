-- Values, rows and views that are of their types.
use Rattle.std.specs.Prelude.{◌≡◌, ◌&&◌, ◌≤◌, nat_le, Bool as Truth, true, List, map, slice_get, Option, Some, Ok, Err}
use Rattle.std.specs.FinMap as fin
use Rattle.pg_values.specs.declared.col_type.ColType.{ColType}
use Rattle.pg_values.specs.declared.value.Value.{Value}
use Rattle.schema.specs.declared.catalogue.ColumnDef.{ColumnDef}
use Rattle.schema.specs.declared.catalogue.TableDef.{TableDef}
use Rattle.catalogue.specs.declared.checked.ColumnDesc.{ColumnDesc}
use Rattle.checked_sql.specs.Sound.{is_value, are_fit}
use Rattle.sql_values.specs.Outcome.{Outcome}
use Rattle.sql_eval.specs.declared.row.Row.{Row}
use Rattle.sql_eval.specs.declared.effect.Change.{Change}
use Rattle.sql_eval.specs.Views.{View, Place, columns_of, key_column}
use Rattle.sql_eval.specs.Reads.{row_size}

-- ---- values

-- a value that is Null or of the type and in its range, or a code
abbrev pub IsOutcomeOf : ColType → Outcome → Type 0
IsOutcomeOf kind (Ok v) = is_value kind v ≡ true
IsOutcomeOf kind (Err code) = Unit {0}

-- ---- rows

abbrev pub kinds_of : List ColumnDef → List ColType
kinds_of columns = map (λ c. c.kind) columns

-- a row of a result: a value for each column, Null or of its type and in its range, and no larger than a row may be
abbrev pub has_columns : List ColumnDesc → Row → Truth
has_columns columns row = are_fit (map (λ c. c.kind) columns) row.cells && nat_le (row_size row) 1048000

-- a row of these columns
abbrev pub is_row_of : List ColumnDef → Row → Truth
is_row_of columns row = are_fit (kinds_of columns) row.cells

-- a row that stands under a key in a table: it has its columns, no more than a row may count, and the key in the key's column
pub record IsStored (table : Option TableDef) (key : Value) (row : Row) : Type 0 where
  pub columns : is_row_of (columns_of table) row ≡ true
  pub size : row_size row ≤ 1048000
  pub own : slice_get row.cells (key_column table) ≡ Some key

-- all rows of a view stand so
abbrev pub AreAllStored : List TableDef → View → Type 0
AreAllStored tables view = (p : Place) (row : Row) → fin.get view p ≡ Some row → IsStored (slice_get tables p.table) p.key row

-- what a change leaves stands so
abbrev pub IsChangeStored : List TableDef → Change → Type 0
IsChangeStored tables c = (row : Row) → c.row ≡ Some row → IsStored (slice_get tables c.table) c.key row

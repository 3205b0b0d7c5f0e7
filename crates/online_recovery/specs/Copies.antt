-- The statements of a copy: all rows of a table with all columns, no row is left in it, and one row with all its values.
use Rattle.std.specs.Prelude.{ℕ, ◌-◌, false, List, [], ◌∷◌, length, map, slice_get, Option, Some, None}
use Rattle.pg_values.specs.declared.value.Value.{Value}
use Rattle.schema.specs.declared.catalogue.ColumnDef.{ColumnDef}
use Rattle.schema.specs.declared.catalogue.TableDef.{TableDef}
use Rattle.typed_sql.specs.Typing.{literal}
use Rattle.catalogue.specs.declared.checked.Checked.{Checked}
use Rattle.catalogue.specs.declared.checked.CheckedBody.TheVariants as body
use Rattle.catalogue.specs.declared.checked.OrderKey.{OrderKey}
use Rattle.catalogue.specs.declared.checked.TypedCell.{TypedCell}
use Rattle.catalogue.specs.declared.checked.TypedCell.TheVariants as cell
use Rattle.catalogue.specs.Statements.{columns_from, column_desc}
use Rattle.sql_eval.specs.Views.{columns_of}
use Rattle.sql_eval.specs.declared.row.Row.{Row}

abbrev pub key_of : Option TableDef → ℕ
key_of None = 0
key_of (Some table) = table.key

abbrev pub by_key : ℕ → List OrderKey
by_key key = record { column = key; falling = false } ∷ []

-- SELECT * FROM table: its rows in the order of their keys
abbrev pub all_rows_of : ℕ → Option TableDef → Checked
all_rows_of number table = record {
  body = body.Read (record {
    table = Some number;
    count = false;
    list = columns_from 0 (columns_of table);
    filter = None;
    order = by_key (key_of table);
    limit = None;
    for_update = false;
  });
  columns = map (λ c. column_desc c.name c.kind) (columns_of table);
  kinds = [];
}

abbrev pub all_rows_in : List TableDef → ℕ → Checked
all_rows_in tables number = all_rows_of number (slice_get tables number)

-- DELETE FROM table
abbrev pub no_rows_in : ℕ → Checked
no_rows_in number = record { body = body.Remove (record { table = number; filter = None }); columns = []; kinds = [] }

-- each value as a literal of its column's type
abbrev pub cells_of : List ColumnDef → List Value → List TypedCell
cells_of [] values = []
cells_of (column ∷ columns) [] = []
cells_of (column ∷ columns) (value ∷ values) = cell.Given (literal column.kind value) ∷ cells_of columns values

-- INSERT INTO table VALUES (..)
abbrev pub row_of : ℕ → Option TableDef → List Value → Checked
row_of number table values = record {
  body = body.Insert (record { table = number; rows = cells_of (columns_of table) values ∷ [] });
  columns = [];
  kinds = [];
}

abbrev pub cells_in : Option Row → List Value
cells_in None = []
cells_in (Some row) = row.cells

abbrev pub row_into : List TableDef → ℕ → List Value → Checked
row_into tables number values = row_of number (slice_get tables number) values

-- the values of the row behind which so many are left
abbrev pub row_in : List Row → ℕ → List Value
row_in rows left = cells_in (slice_get rows (length rows - 1 - left))

-- Tables and columns as far as they are read, and what they become.
use Rattle.std.specs.Prelude.{◌||◌, ◌&&◌, ℕ, Bool as Truth, true, false, not, List, [], ◌∷◌, ◌++◌, Option, Some, None, bytes_eq, if◌then◌else◌, is_some}
use Rattle.std.specs.List.{list_any}
use Rattle.schema.specs.declared.catalogue.ColumnDef.{ColumnDef}
use Rattle.schema.specs.declared.catalogue.Fill.{Fill}
use Rattle.schema.specs.declared.catalogue.Fill.TheVariants.{Nothing, Serial}
use Rattle.schema.specs.declared.catalogue.TableDef.{TableDef}
use Rattle.schema.specs.declared.column_type.ColumnType.{ColumnType}
use Rattle.schema.specs.declared.open.OpenColumn.{OpenColumn}
use Rattle.schema.specs.declared.open.OpenTable.{OpenTable}
use Rattle.schema.specs.Types.{kind_of, is_serial, may_be_key}

abbrev pub has_table : List ℕ → List TableDef → Truth
has_table name tables = list_any (λ t. bytes_eq t.name name) tables

abbrev pub has_column : List ℕ → List ColumnDef → Truth
has_column name columns = list_any (λ c. bytes_eq c.name name) columns

-- a table without columns yet
abbrev pub empty_table : List ℕ → OpenTable
empty_table name = record { name = name; columns = []; key = None; serial = None }

-- a column of which the name and the type were read
abbrev pub bare_column : ℕ → List ℕ → ColumnType → OpenColumn
bare_column number name kind = record { number = number; name = name; kind = kind; not_null = false; key = false; fill = None }

-- a table has at most one serial column
abbrev pub may_take_type : OpenTable → ColumnType → Truth
may_take_type table kind = not (is_serial kind && is_some table.serial)

-- PRIMARY KEY stands once in a column and in a table, at a type of which a key may be
abbrev pub may_take_key : OpenTable → OpenColumn → Truth
may_take_key table column = may_be_key column.kind && not (column.key || is_some table.key)

-- DEFAULT stands once, and at no serial column
abbrev pub may_take_fill : OpenColumn → Truth
may_take_fill column = not (is_serial column.kind || is_some column.fill)

abbrev pub with_not_null : OpenColumn → OpenColumn
with_not_null column = record column { not_null = true }

abbrev pub with_key : OpenColumn → OpenColumn
with_key column = record column { key = true }

abbrev pub with_fill : OpenColumn → Fill → OpenColumn
with_fill column fill = record column { fill = Some fill }

abbrev pub fill_or_nothing : Option Fill → Fill
fill_or_nothing None = Nothing
fill_or_nothing (Some fill) = fill

-- what a cell has that an INSERT leaves out
abbrev pub fill_by : ColumnType → Option Fill → Fill
fill_by kind fill = if is_serial kind then Serial else fill_or_nothing fill

-- the whole column: a key and a serial column are NOT NULL
abbrev pub whole_column : OpenColumn → ColumnDef
whole_column column = record {
  name = column.name;
  kind = kind_of column.kind;
  not_null = column.not_null || (column.key || is_serial column.kind);
  fill = fill_by column.kind column.fill;
}

-- the number of the column where the test holds, and else what was there
abbrev pub number_or : Truth → ℕ → Option ℕ → Option ℕ
number_or test number other = if test then Some number else other

-- the table with one column more
abbrev pub with_column : OpenTable → OpenColumn → OpenTable
with_column table column = record {
  name = table.name;
  columns = table.columns ++ whole_column column ∷ [];
  key = number_or column.key column.number table.key;
  serial = number_or (is_serial column.kind) column.number table.serial;
}

-- the whole table, where it has a key
abbrev pub whole_table_with : OpenTable → Option ℕ → Option TableDef
whole_table_with table None = None
whole_table_with table (Some key) = Some (record { name = table.name; columns = table.columns; key = key; serial = table.serial })

abbrev pub whole_table : OpenTable → Option TableDef
whole_table table = whole_table_with table table.key

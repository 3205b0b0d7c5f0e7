-- The statement that a checked statement is spelled as over the tables of a catalogue.
use Rattle.std.specs.Prelude.{ℕ, Bool as Truth, true, false, List, [], ◌∷◌, map, Option, Some, None, slice_get, bytes_eq, if◌then◌else◌}
use Rattle.std.specs.Option.{option_map}
use Rattle.schema.specs.declared.catalogue.ColumnDef.{ColumnDef}
use Rattle.schema.specs.declared.catalogue.TableDef.{TableDef}
use Rattle.sql_tree.specs.declared.expr.Expr.{Expr}
use Rattle.sql_tree.specs.declared.statement.Statement.{Statement}
use Rattle.sql_tree.specs.declared.statement.Statement.TheVariants as statement
use Rattle.sql_tree.specs.declared.statement.Select.{Select}
use Rattle.sql_tree.specs.declared.statement.SelectList.{SelectList}
use Rattle.sql_tree.specs.declared.statement.SelectList.TheVariants as list
use Rattle.sql_tree.specs.declared.statement.SelectItem.{SelectItem}
use Rattle.sql_tree.specs.declared.statement.OrderItem.{OrderItem}
use Rattle.sql_tree.specs.declared.statement.Insert.{Insert}
use Rattle.sql_tree.specs.declared.statement.Cell.{Cell}
use Rattle.sql_tree.specs.declared.statement.Cell.TheVariants as cell
use Rattle.sql_tree.specs.declared.statement.Update.{Update}
use Rattle.sql_tree.specs.declared.statement.SetItem.{SetItem}
use Rattle.sql_tree.specs.declared.statement.Delete.{Delete}
use Rattle.typed_sql.specs.declared.typed.TypedExpr.{TypedExpr}
use Rattle.catalogue.specs.declared.checked.Checked.{Checked}
use Rattle.catalogue.specs.declared.checked.CheckedBody.{CheckedBody}
use Rattle.catalogue.specs.declared.checked.CheckedBody.TheVariants as body
use Rattle.catalogue.specs.declared.checked.CheckedRead.{CheckedRead}
use Rattle.catalogue.specs.declared.checked.CheckedInsert.{CheckedInsert}
use Rattle.catalogue.specs.declared.checked.CheckedChange.{CheckedChange}
use Rattle.catalogue.specs.declared.checked.CheckedRemove.{CheckedRemove}
use Rattle.catalogue.specs.declared.checked.ColumnDesc.{ColumnDesc}
use Rattle.catalogue.specs.declared.checked.OrderKey.{OrderKey}
use Rattle.catalogue.specs.declared.checked.TypedCell.{TypedCell}
use Rattle.catalogue.specs.declared.checked.TypedCell.TheVariants as typed_cell
use Rattle.catalogue.specs.declared.checked.TypedSet.{TypedSet}
use Rattle.catalogue.specs.Naming.{own_name}
use Rattle.checked_print.specs.Spelled.{name_at, spelled, spelled_whole}

-- ---- the table; a number that is not there has no name and no columns

abbrev pub name_of : Option TableDef → List ℕ
name_of None = []
name_of (Some table) = table.name

abbrev pub columns_of : Option TableDef → List ColumnDef
columns_of None = []
columns_of (Some table) = table.columns

abbrev pub table_name : List TableDef → ℕ → List ℕ
table_name tables number = name_of (slice_get tables number)

abbrev pub table_columns : List TableDef → ℕ → List ColumnDef
table_columns tables number = columns_of (slice_get tables number)

-- ---- SELECT

-- AS, exactly where the expression has not the name by itself
abbrev pub as_name : Expr → List ℕ → Option (List ℕ)
as_name e name = if bytes_eq (own_name e) name then None else Some name

abbrev pub spelled_item : List ColumnDef → TypedExpr → ColumnDesc → SelectItem
spelled_item columns e column = record { expr = spelled columns e; name = as_name (spelled columns e) column.name }

-- each expression with the name of its column
abbrev pub spelled_items : List ColumnDef → List TypedExpr → List ColumnDesc → List SelectItem
spelled_items columns [] descs = []
spelled_items columns (e ∷ es) [] = []
spelled_items columns (e ∷ es) (desc ∷ descs) = spelled_item columns e desc ∷ spelled_items columns es descs

abbrev pub spelled_list : Truth → List ColumnDef → List TypedExpr → List ColumnDesc → SelectList
spelled_list true columns es descs = list.Count
spelled_list false columns es descs = list.Items (spelled_items columns es descs)

-- a key of an order, with the name of its table before it
abbrev pub spelled_key : List ℕ → List ColumnDef → OrderKey → OrderItem
spelled_key table columns key = record { qualifier = Some table; column = name_at columns key.column; falling = key.falling }

-- over the columns of a table, or of none
abbrev pub spelled_select : Option (List ℕ) → List ℕ → List ColumnDef → CheckedRead → List ColumnDesc → Select
spelled_select table name columns read descs = record {
  list = spelled_list read.count columns read.list descs;
  table = table;
  filter = option_map (spelled columns) read.filter;
  order = map (spelled_key name columns) read.order;
  limit = option_map (spelled_whole columns) read.limit;
  for_update = read.for_update;
}

abbrev pub spelled_read : List TableDef → Option ℕ → CheckedRead → List ColumnDesc → Select
spelled_read tables None read descs = spelled_select None [] [] read descs
spelled_read tables (Some number) read descs =
    spelled_select (Some (table_name tables number)) (table_name tables number) (table_columns tables number) read descs

-- ---- INSERT

-- a cell that the table fills is DEFAULT; in another no column stands
abbrev pub spelled_cell : TypedCell → Cell
spelled_cell typed_cell.Serial = cell.Fill
spelled_cell typed_cell.Now = cell.Fill
spelled_cell (typed_cell.Given e) = cell.Given (spelled_whole [] e)

-- all columns of the table, in their order
abbrev pub column_names : List ColumnDef → List (List ℕ)
column_names columns = map (λ c. c.name) columns

abbrev pub spelled_insert : List TableDef → CheckedInsert → Insert
spelled_insert tables insert = record {
  table = table_name tables insert.table;
  columns = Some (column_names (table_columns tables insert.table));
  rows = map (map spelled_cell) insert.rows;
}

-- ---- UPDATE, DELETE

abbrev pub spelled_set : List ColumnDef → TypedSet → SetItem
spelled_set columns set = record { column = name_at columns set.column; expr = spelled_whole columns set.expr }

abbrev pub spelled_change : List TableDef → CheckedChange → Update
spelled_change tables change = record {
  table = table_name tables change.table;
  sets = map (spelled_set (table_columns tables change.table)) change.sets;
  filter = option_map (spelled (table_columns tables change.table)) change.filter;
}

abbrev pub spelled_remove : List TableDef → CheckedRemove → Delete
spelled_remove tables remove = record {
  table = table_name tables remove.table;
  filter = option_map (spelled (table_columns tables remove.table)) remove.filter;
}

-- ---- statements

abbrev pub spelled_body : List TableDef → List ColumnDesc → CheckedBody → Statement
spelled_body tables descs (body.Read read) = statement.Select (spelled_read tables read.table read descs)
spelled_body tables descs (body.Insert insert) = statement.Insert (spelled_insert tables insert)
spelled_body tables descs (body.Change change) = statement.Update (spelled_change tables change)
spelled_body tables descs (body.Remove remove) = statement.Delete (spelled_remove tables remove)

abbrev pub spelled_statement : List TableDef → Checked → Statement
spelled_statement tables checked = spelled_body tables checked.columns checked.body

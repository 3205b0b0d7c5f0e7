-- Whether a checked statement is of a catalogue.
use Rattle.std.specs.Prelude.{◌&&◌, ◌==◌, ◌-◌, ℕ, pos, Bool as Truth, true, false, not, List, [], ◌∷◌, length, nat_lt, Option, Some, None, slice_get}
use Rattle.std.specs.List.{list_all, list_any}
use Rattle.std.specs.Int.Signed.{le_z}
use Rattle.pg_values.specs.declared.col_type.ColType.{ColType}
use Rattle.pg_values.specs.declared.col_type.ColType.TheVariants.{Bool, Int8}
use Rattle.pg_values.specs.declared.value.Value.{Value}
use Rattle.pg_values.specs.declared.value.Value.TheVariants as value
use Rattle.schema.specs.declared.catalogue.ColumnDef.{ColumnDef}
use Rattle.schema.specs.declared.catalogue.TableDef.{TableDef}
use Rattle.schema.specs.declared.catalogue.Fill.{Fill}
use Rattle.schema.specs.declared.catalogue.Fill.TheVariants as fill
use Rattle.typed_sql.specs.declared.asks.Takes.TheVariants.{Whole, Like}
use Rattle.typed_sql.specs.declared.typed.TypedExpr.{TypedExpr}
use Rattle.typed_sql.specs.declared.typed.TypedForm.{TypedForm, out-TypedForm}
use Rattle.typed_sql.specs.declared.typed.TypedForm.TheOpen.{TypedForm-F}
use Rattle.typed_sql.specs.declared.typed.TypedProductPart.{TypedProductPart}
use Rattle.typed_sql.specs.declared.typed.TypedSumPart.{TypedSumPart}
use Rattle.typed_sql.specs.declared.typed.TypedForm.TheVariants as form
use Rattle.typed_sql.specs.Places.{same_kind}
use Rattle.catalogue.specs.declared.checked.Checked.{Checked}
use Rattle.catalogue.specs.declared.checked.CheckedBody.{CheckedBody}
use Rattle.catalogue.specs.declared.checked.CheckedBody.TheVariants as body
use Rattle.catalogue.specs.declared.checked.CheckedRead.{CheckedRead}
use Rattle.catalogue.specs.declared.checked.CheckedInsert.{CheckedInsert}
use Rattle.catalogue.specs.declared.checked.CheckedChange.{CheckedChange}
use Rattle.catalogue.specs.declared.checked.CheckedRemove.{CheckedRemove}
use Rattle.catalogue.specs.declared.checked.ColumnDesc.{ColumnDesc}
use Rattle.catalogue.specs.declared.checked.OrderKey.{OrderKey}
use Rattle.catalogue.specs.declared.checked.TypedCell.{TypedCell}
use Rattle.catalogue.specs.declared.checked.TypedCell.TheVariants as cell
use Rattle.catalogue.specs.declared.checked.TypedSet.{TypedSet}
use Rattle.checked_sql.specs.Sound.{Names, has_no_zero, is_sound, stands}

-- what may be named: the columns of a table, or none, and the parameters by their types
abbrev pub around : List ColumnDef → List ColType → Names
around columns kinds = record { columns = columns; kinds = kinds }

-- a filter is a bool
abbrev pub is_filter : Names → Option TypedExpr → Truth
is_filter names None = true
is_filter names (Some e) = stands names (Like Bool) e

-- ---- SELECT

-- what a check makes of a whole number behind a minus: an int4 where it fits, else an int8; 2147483648 is one literal
-- with its minus
abbrev pub is_written : Value → Truth
is_written (value.Int4 n) = le_z (pos 0) n
is_written (value.Int8 n) = le_z (pos 2147483649) n
is_written v = false

abbrev pub is_written_form : TypedForm → Truth
is_written_form (form.Literal v) = is_written v
is_written_form f = false

-- a parameter, a literal, or what a check makes of a whole number behind a minus
abbrev pub is_limit_layer : TypedForm-F TypedForm TypedExpr TypedProductPart TypedSumPart → Truth
is_limit_layer (TypedForm-F.Param n) = true
is_limit_layer (TypedForm-F.Literal v) = true
is_limit_layer (TypedForm-F.Minus e) = is_written_form e.form
is_limit_layer layer = false

abbrev pub is_limit_form : TypedForm → Truth
is_limit_form f = is_limit_layer (out-TypedForm f)

abbrev pub is_limit : Names → Option TypedExpr → Truth
is_limit names None = true
is_limit names (Some e) = is_limit_form e.form && stands names Whole e

abbrev pub is_key : TableDef → Option OrderKey → Truth
is_key table None = false
is_key table (Some order) = order.column == table.key && not order.falling

-- an order: each column is there, and the last is the key, rising
abbrev pub is_order : TableDef → List OrderKey → Truth
is_order table orders =
    list_all (λ o. nat_lt o.column (length table.columns)) orders && is_key table (slice_get orders (length orders - 1))

abbrev pub is_none : {A : Type 0} → Option A → Truth
is_none None = true
is_none (Some x) = false

abbrev pub is_empty : {A : Type 0} → List A → Truth
is_empty [] = true
is_empty (x ∷ xs) = false

-- a name that is not empty and has no zero byte
abbrev pub is_name : List ℕ → Truth
is_name name = not (is_empty name) && has_no_zero name

-- the columns of the result: one for each item, with its type and a name
abbrev pub is_result : TypedExpr → ColumnDesc → Truth
is_result e column = same_kind column.kind e.kind && is_name column.name

abbrev pub are_results : List TypedExpr → List ColumnDesc → Truth
are_results [] columns = is_empty columns
are_results (e ∷ es) [] = false
are_results (e ∷ es) (column ∷ columns) = is_result e column && are_results es columns

abbrev pub is_count_result : List ColumnDesc → Truth
is_count_result (column ∷ []) = same_kind column.kind Int8 && is_name column.name
is_count_result columns = false

-- 1 to 1664 items, each node of which has its type
abbrev pub is_list : Names → List TypedExpr → Truth
is_list names list = not (is_empty list) && (nat_lt (length list) 1665 && list_all (is_sound names) list)

-- no order, limit and FOR UPDATE
abbrev pub is_plain : CheckedRead → Truth
is_plain read = is_empty read.order && (is_none read.limit && not read.for_update)

-- a count: no list, order, limit and FOR UPDATE
abbrev pub is_count : Names → CheckedRead → List ColumnDesc → Truth
is_count names read columns =
    is_empty read.list && (is_plain read && (is_filter names read.filter && is_count_result columns))

-- another SELECT from a table
abbrev pub is_rows : Names → TableDef → CheckedRead → List ColumnDesc → Truth
is_rows names table read columns =
    is_list names read.list && (are_results read.list columns
    && (is_filter names read.filter && (is_order table read.order && is_limit names read.limit)))

-- without a table: no filter, order, limit and FOR UPDATE
abbrev pub is_bare : Names → CheckedRead → List ColumnDesc → Truth
is_bare names read columns =
    is_list names read.list && (are_results read.list columns && (is_none read.filter && is_plain read))

abbrev pub is_read_of : List ColType → TableDef → Truth → CheckedRead → List ColumnDesc → Truth
is_read_of kinds table true read columns = is_count (around table.columns kinds) read columns
is_read_of kinds table false read columns = is_rows (around table.columns kinds) table read columns

abbrev pub is_read_from : List ColType → Option TableDef → CheckedRead → List ColumnDesc → Truth
is_read_from kinds None read columns = false
is_read_from kinds (Some table) read columns = is_read_of kinds table read.count read columns

abbrev pub is_read_at : List TableDef → List ColType → Option ℕ → CheckedRead → List ColumnDesc → Truth
is_read_at tables kinds None read columns = not read.count && is_bare (around [] kinds) read columns
is_read_at tables kinds (Some number) read columns = is_read_from kinds (slice_get tables number) read columns

-- ---- INSERT

abbrev pub is_serial : Fill → Truth
is_serial fill.Serial = true
is_serial f = false

abbrev pub is_now : Fill → Truth
is_now fill.Now = true
is_now f = false

-- a cell of a column: the next number and the moment only where the column is filled so, and no column stands in it
abbrev pub is_cell : List ColType → ColumnDef → TypedCell → Truth
is_cell kinds column cell.Serial = is_serial column.fill
is_cell kinds column cell.Now = is_now column.fill
is_cell kinds column (cell.Given e) = stands (around [] kinds) (Like column.kind) e

-- one cell for each column
abbrev pub are_cells : List ColType → List ColumnDef → List TypedCell → Truth
are_cells kinds [] cells = is_empty cells
are_cells kinds (column ∷ columns) [] = false
are_cells kinds (column ∷ columns) (cell ∷ cells) = is_cell kinds column cell && are_cells kinds columns cells

-- one row or more, and fewer than 4294967296
abbrev pub is_insert : List ColType → TableDef → CheckedInsert → Truth
is_insert kinds table insert =
    not (is_empty insert.rows) && (nat_lt (length insert.rows) 4294967296 && list_all (are_cells kinds table.columns) insert.rows)

-- ---- UPDATE, DELETE

abbrev pub is_value_of : Names → Option ColumnDef → TypedExpr → Truth
is_value_of names None e = false
is_value_of names (Some column) e = stands names (Like column.kind) e

-- a column that is there and no key, and a value of its type
abbrev pub is_set : Names → TableDef → TypedSet → Truth
is_set names table set = not (set.column == table.key) && is_value_of names (slice_get table.columns set.column) set.expr

-- no column twice
abbrev pub are_apart : List TypedSet → Truth
are_apart [] = true
are_apart (set ∷ sets) = not (list_any (λ s. s.column == set.column) sets) && are_apart sets

abbrev pub is_change : List ColType → TableDef → CheckedChange → Truth
is_change kinds table change =
    not (is_empty change.sets) && (are_apart change.sets
    && (list_all (is_set (around table.columns kinds) table) change.sets && is_filter (around table.columns kinds) change.filter))

abbrev pub is_remove : List ColType → TableDef → CheckedRemove → Truth
is_remove kinds table remove = is_filter (around table.columns kinds) remove.filter

-- ---- statements

-- of the table of that number
abbrev pub of_table : {A : Type 0} → (TableDef → A → Truth) → Option TableDef → A → Truth
of_table is None x = false
of_table is (Some table) x = is table x

abbrev pub is_body : List TableDef → List ColType → CheckedBody → List ColumnDesc → Truth
is_body tables kinds (body.Read read) columns = is_read_at tables kinds read.table read columns
is_body tables kinds (body.Insert insert) columns =
    is_empty columns && of_table (is_insert kinds) (slice_get tables insert.table) insert
is_body tables kinds (body.Change change) columns =
    is_empty columns && of_table (is_change kinds) (slice_get tables change.table) change
is_body tables kinds (body.Remove remove) columns =
    is_empty columns && of_table (is_remove kinds) (slice_get tables remove.table) remove

-- the statement is of the tables: its numbers are there, each node has the type that the rules give it and as many parts
-- as its form has, and its parts stand where they may
abbrev pub is_of : List TableDef → Checked → Truth
is_of tables checked = is_body tables checked.kinds checked.body checked.columns

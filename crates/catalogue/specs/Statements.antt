-- Which checked statement a statement is over the tables of a catalogue, and which fault is its first.
use Rattle.std.specs.Prelude.{◌≡◌, ◌==◌, ◌++◌, take, ℕ, zero, suc, nat_lt, Bool as Truth, true, false, List, [], ◌∷◌, length, map, Option, Some, None, Result, Ok, Err, if◌then◌else◌, codes, bytes_eq, slice_get, set, is_some}
use Rattle.std.specs.List.{list_any}
use Rattle.std.specs.Fmt.{decimal}
use Rattle.pg_values.specs.declared.col_type.ColType.{ColType}
use Rattle.pg_values.specs.declared.col_type.ColType.TheVariants as kind
use Rattle.pg_values.specs.declared.value.Value.TheVariants.{Null}
use Rattle.pg_values.specs.Kinds.{oid_number}
use Rattle.schema.specs.declared.catalogue.ColumnDef.{ColumnDef}
use Rattle.schema.specs.declared.catalogue.TableDef.{TableDef}
use Rattle.schema.specs.declared.catalogue.Fill.{Fill}
use Rattle.schema.specs.declared.catalogue.Fill.TheVariants as fill
use Rattle.sql_tree.specs.declared.expr.Expr.{Expr}
use Rattle.sql_tree.specs.declared.statement.Select.{Select}
use Rattle.sql_tree.specs.declared.statement.SelectList.{SelectList}
use Rattle.sql_tree.specs.declared.statement.SelectList.TheVariants.{Star, Count, Items}
use Rattle.sql_tree.specs.declared.statement.SelectItem.{SelectItem}
use Rattle.sql_tree.specs.declared.statement.OrderItem.{OrderItem}
use Rattle.sql_tree.specs.declared.statement.Insert.{Insert}
use Rattle.sql_tree.specs.declared.statement.Cell.{Cell}
use Rattle.sql_tree.specs.declared.statement.Cell.TheVariants.{Fill as Default, Given}
use Rattle.sql_tree.specs.declared.statement.Update.{Update}
use Rattle.sql_tree.specs.declared.statement.SetItem.{SetItem}
use Rattle.sql_tree.specs.declared.statement.Delete.{Delete}
use Rattle.sql_tree.specs.declared.statement.Statement.{Statement}
use Rattle.sql_tree.specs.declared.statement.Statement.TheVariants as statement
use Rattle.catalogue.specs.declared.checked.CheckedBody.{CheckedBody}
use Rattle.catalogue.specs.declared.checked.CheckedBody.TheVariants as body
use Rattle.catalogue.specs.declared.checked.OrderKey.{OrderKey}
use Rattle.catalogue.specs.declared.checked.ColumnDesc.{ColumnDesc}
use Rattle.catalogue.specs.declared.checked.TypedCell.{TypedCell}
use Rattle.catalogue.specs.declared.checked.TypedCell.TheVariants as cell
use Rattle.catalogue.specs.declared.checked.TypedSet.{TypedSet}
use Rattle.typed_sql.specs.declared.typed.TypedExpr.{TypedExpr}
use Rattle.typed_sql.specs.declared.typed.TypedForm.TheVariants as form
use Rattle.catalogue.specs.Naming.{item_name}
use Rattle.typed_sql.specs.Own.{Scope, over, beside, alone, column_meant}
use Rattle.typed_sql.specs.Places.{asks_bool, asks_nothing, asks_limit, asks_column}
use Rattle.typed_sql.specs.Steps.{Known, Fault, fault, Step, Gives, Then, Made, Walk, Each, Maybe, Told}
use Rattle.typed_sql.specs.Typing.{Typed, typed, literal}

-- ---- tables

-- the first table of that name among these, with its number, where the first of these has this number
abbrev pub table_from : ℕ → List ℕ → List TableDef → Option (ℕ × TableDef)
table_from number name [] = None
table_from number name (table ∷ tables) =
    if bytes_eq table.name name then Some (number, table) else table_from (suc number) name tables

-- what there is not is a fault at its name
abbrev pub no_table : List ℕ → Option (ℕ × TableDef) → Result (ℕ × TableDef) Fault
no_table name None = Err (fault (codes "42P01") name)
no_table name (Some x) = Ok x

-- the table of that name, and its number
abbrev pub table_named : List TableDef → List ℕ → Result (ℕ × TableDef) Fault
table_named tables name = no_table name (table_from 0 name tables)

-- WHERE, if there is one, is of type bool
abbrev pub FilterOf : Scope → Option Expr → Step (Option TypedExpr)
FilterOf scope filter = Maybe (λ e. Typed scope e asks_bool) filter

-- ---- SELECT

-- behind so many items there is room for one more: the 1665th is one too many
abbrev pub has_room : ℕ → Result (Unit {0}) Fault
has_room before = if nat_lt before 1664 then Ok tt else Err (fault (codes "54011") [])

-- an item behind so many others, whatever its type
abbrev pub ItemOf : Scope → ℕ → SelectItem → Step TypedExpr
ItemOf scope before item = Then (Told (has_room before)) (λ room. Typed scope item.expr asks_nothing)

-- the columns as expressions, by their numbers from this one on
abbrev pub columns_from : ℕ → List ColumnDef → List TypedExpr
columns_from number [] = []
columns_from number (column ∷ columns) = typed column.kind (form.Column number) ∷ columns_from (suc number) columns

-- what a list gives: `*` all columns, `count(*)` none
abbrev pub ListOf : Scope → List ColumnDef → SelectList → Step (List TypedExpr)
ListOf scope columns Star = Gives (columns_from 0 columns)
ListOf scope columns Count = Gives []
ListOf scope columns (Items items) = Walk (ItemOf scope) (λ before e. suc before) 0 items

-- whether a list is `count(*)`
abbrev pub is_count : SelectList → Truth
is_count Star = false
is_count Count = true
is_count (Items items) = false

-- a column of the result by its name and its type
abbrev pub column_desc : List ℕ → ColType → ColumnDesc
column_desc name kind = record { name = name; kind = kind }

-- the columns of the result of items that are these expressions
abbrev pub item_columns : List SelectItem → List TypedExpr → List ColumnDesc
item_columns [] es = []
item_columns (item ∷ items) [] = []
item_columns (item ∷ items) (e ∷ es) = column_desc (item_name item.name item.expr) e.kind ∷ item_columns items es

-- the columns of the result: those of the table, the one of a count, or one for each item
abbrev pub result_columns : List ColumnDef → SelectList → List TypedExpr → List ColumnDesc
result_columns columns Star es = map (λ c. column_desc c.name c.kind) columns
result_columns columns Count es = column_desc (codes "count") kind.Int8 ∷ []
result_columns columns (Items items) es = item_columns items es

-- a column that rows are ordered by, and whether its values fall
abbrev pub order_key : Truth → ℕ × ColumnDef → OrderKey
order_key falling x = record { column = x.0; falling = falling }

-- an item of ORDER BY names a column of the table
abbrev pub OrderOf : Scope → OrderItem → Step OrderKey
OrderOf scope item = Made (order_key item.falling) (Told (column_meant scope item.qualifier item.column))

-- beside `count(*)` no ORDER BY, LIMIT or FOR UPDATE may be there
abbrev pub uncounted : Truth → Truth → Result (Unit {0}) Fault
uncounted true true = Err (fault (codes "0A000") (codes "count"))
uncounted true false = Ok tt
uncounted false there = Ok tt

-- what stands behind WHERE: first whether it may be there, then what it is
abbrev pub Uncounted : {A : Type 0} → Truth → Truth → Step A → Step A
Uncounted count there step = Then (Told (uncounted count there)) (λ free. step)

-- whether a list has an item
abbrev pub is_there : {A : Type 0} → List A → Truth
is_there [] = false
is_there (x ∷ xs) = true

-- the key, rising, is the last key of every order but that of `count(*)`
abbrev pub with_key : Truth → TableDef → List OrderKey → List OrderKey
with_key true table keys = keys
with_key false table keys = keys ++ record { column = table.key; falling = false } ∷ []

-- a body, and the columns of its result
abbrev pub Body : Type 0
Body = CheckedBody × List ColumnDesc

-- the columns that rows are ordered by, and the limit
abbrev pub Ends : Type 0
Ends = List OrderKey × Option TypedExpr

-- behind the list and WHERE: ORDER BY, LIMIT, FOR UPDATE
abbrev pub EndsOf : Truth → Scope → Select → TableDef → Step Ends
EndsOf count scope select table =
    Then (Uncounted count (is_there select.order) (Each (OrderOf scope) select.order)) (λ order.
    Then (Uncounted count (is_some select.limit) (Maybe (λ e. Typed scope e asks_limit) select.limit)) (λ limit.
    Uncounted count select.for_update (Gives (with_key count table order, limit))))

-- the SELECT of these parts, and the columns of its result
abbrev pub read_of : ℕ × TableDef → Select → List TypedExpr → Option TypedExpr → Ends → Body
read_of x select list filter ends = (
  body.Read (record {
    table = Some x.0;
    count = is_count select.list;
    list = list;
    filter = filter;
    order = ends.0;
    limit = ends.1;
    for_update = select.for_update;
  }),
  result_columns (x.1).columns select.list list,
)

-- a SELECT from a table: the list, WHERE, and what stands behind them
abbrev pub ReadIn : Scope → Select → ℕ × TableDef → Step Body
ReadIn scope select x =
    Then (ListOf scope (x.1).columns select.list) (λ list.
    Then (FilterOf scope select.filter) (λ filter.
    Made (read_of x select list filter) (EndsOf (is_count select.list) scope select x.1)))

-- over the rows of the table
abbrev pub ReadFrom : Truth → Select → ℕ × TableDef → Step Body
ReadFrom parameters select x = ReadIn (over parameters x.1) select x

-- the SELECT of this list alone
abbrev pub bare_read : Select → List TypedExpr → Body
bare_read select list = (
  body.Read (record { table = None; count = false; list = list; filter = None; order = []; limit = None; for_update = false }),
  result_columns [] select.list list,
)

-- a SELECT without a table, or from the table of that name
abbrev pub SelectOf : List TableDef → Truth → Select → Option (List ℕ) → Step Body
SelectOf tables parameters select None = Made (bare_read select) (ListOf (alone parameters) [] select.list)
SelectOf tables parameters select (Some name) = Then (Told (table_named tables name)) (ReadFrom parameters select)

-- ---- INSERT

-- what a column is filled with, as a cell of it
abbrev pub filled : ColumnDef → Fill → TypedCell
filled column fill.Nothing = cell.Given (literal column.kind Null)
filled column fill.Serial = cell.Serial
filled column fill.Now = cell.Now
filled column (fill.Constant value) = cell.Given (literal column.kind value)

-- the cell of a column that is left out
abbrev pub default_cell : ColumnDef → TypedCell
default_cell column = filled column column.fill

-- a cell that has a value
abbrev pub given_cell : TypedExpr → TypedCell
given_cell e = cell.Given e

-- a cell of a column: DEFAULT, or a value of the column's type
abbrev pub CellIn : Scope → ColumnDef → Cell → Step TypedCell
CellIn scope column Default = Gives (default_cell column)
CellIn scope column (Given e) = Made given_cell (Typed scope e (asks_column column.kind))

-- a row has more or fewer cells than there are columns
abbrev pub wrong_number : Fault
wrong_number = fault (codes "42601") []

-- a cell at its place in a row: one too many has no column
abbrev pub CellAt : Scope → Option ColumnDef → Cell → Step TypedCell
CellAt scope None cell = Told (Err wrong_number)
CellAt scope (Some column) cell = CellIn scope column cell

-- a column that others before it are is named twice
abbrev pub named_twice : List ℕ → List ℕ → ℕ × ColumnDef → Result (ℕ × ColumnDef) Fault
named_twice name before x = if list_any (λ n. n == x.0) before then Err (fault (codes "42701") name) else Ok x

-- a column that is named behind these
abbrev pub Name : Scope → List ℕ → List ℕ → Step (ℕ × ColumnDef)
Name scope before name = Then (Told (column_meant scope None name)) (λ x. Told (named_twice name before x))

-- columns with their numbers from this one on
abbrev pub numbered_from : ℕ → List ColumnDef → List (ℕ × ColumnDef)
numbered_from number [] = []
numbered_from number (column ∷ columns) = (number, column) ∷ numbered_from (suc number) columns

-- how many cells the first row has
abbrev pub first_length : List (List Cell) → ℕ
first_length [] = 0
first_length (row ∷ rows) = length row

-- the first columns, as many as the first row has cells
abbrev pub first_columns : List ColumnDef → List (List Cell) → List (ℕ × ColumnDef)
first_columns columns rows = numbered_from 0 (take (first_length rows) columns)

-- the columns that are given values, in the order of their values: those that are named, and else the first ones
abbrev pub ColumnsOf : Scope → List ColumnDef → Insert → Option (List (List ℕ)) → Step (List (ℕ × ColumnDef))
ColumnsOf scope columns insert None = Gives (first_columns columns insert.rows)
ColumnsOf scope columns insert (Some names) = Walk (Name scope) (λ before x. before ++ x.0 ∷ []) [] names

-- the column at a place, without its number
abbrev pub column_at : Option (ℕ × ColumnDef) → Option ColumnDef
column_at None = None
column_at (Some x) = Some x.1

-- a row with these cells at the numbers of their columns
abbrev pub put_cells : List (ℕ × ColumnDef) → List TypedCell → List TypedCell → List TypedCell
put_cells [] cells row = row
put_cells (x ∷ xs) [] row = row
put_cells (x ∷ xs) (cell ∷ cells) row = put_cells xs cells (set row x.0 cell)

-- a cell for each column of the table: the given ones at theirs, and what the others are filled with
abbrev pub whole_row : List ColumnDef → List (ℕ × ColumnDef) → List TypedCell → Result (List TypedCell) Fault
whole_row columns given cells =
    if length cells == length given then Ok (put_cells given cells (map default_cell columns)) else Err wrong_number

-- a row: a cell too many is a fault at that cell, too few are one at the end of the row
abbrev pub RowOf : Scope → List ColumnDef → List (ℕ × ColumnDef) → List Cell → Step (List TypedCell)
RowOf scope columns given row =
    Then (Walk (λ at cell. CellAt scope (column_at (slice_get given at)) cell) (λ at cell. suc at) 0 row)
    (λ cells. Told (whole_row columns given cells))

-- the INSERT of these rows; its result has no columns
abbrev pub insert_of : ℕ → List (List TypedCell) → Body
insert_of table rows = (body.Insert (record { table = table; rows = rows }), [])

-- the columns mean those of the table, and in the cells none stands
abbrev pub InsertIn : Scope → Scope → Insert → ℕ × TableDef → Step Body
InsertIn named cells insert x =
    Then (ColumnsOf named (x.1).columns insert insert.columns)
    (λ given. Made (insert_of x.0) (Each (RowOf cells (x.1).columns given) insert.rows))

-- an INSERT into a table
abbrev pub InsertInto : Truth → Insert → ℕ × TableDef → Step Body
InsertInto parameters insert x = InsertIn (over parameters x.1) (beside parameters x.1) insert x

-- ---- UPDATE, DELETE

-- a column that is set is not the key, and none of those before it
abbrev pub may_set : ℕ → List ℕ → List ℕ → ℕ × ColumnDef → Result (ℕ × ColumnDef) Fault
may_set key name before x =
    if x.0 == key then Err (fault (codes "0A000") (codes "update of a key column"))
    else (if list_any (λ n. n == x.0) before then Err (fault (codes "42601") name) else Ok x)

-- a column and its new value
abbrev pub set_of : ℕ → TypedExpr → TypedSet
set_of column e = record { column = column; expr = e }

-- an item of SET behind these columns: its column, then its value
abbrev pub SetOf : Scope → ℕ → List ℕ → SetItem → Step TypedSet
SetOf scope key before item =
    Then (Told (column_meant scope None item.column)) (λ x.
    Then (Told (may_set key item.column before x)) (λ x.
    Made (set_of x.0) (Typed scope item.expr (asks_column (x.1).kind))))

-- the UPDATE of these parts; its result has no columns
abbrev pub change_of : ℕ → List TypedSet → Option TypedExpr → Body
change_of table sets filter = (body.Change (record { table = table; sets = sets; filter = filter }), [])

-- an UPDATE: SET, then WHERE
abbrev pub ChangeIn : Scope → Update → ℕ × TableDef → Step Body
ChangeIn scope update x =
    Then (Walk (SetOf scope (x.1).key) (λ before s. before ++ s.column ∷ []) [] update.sets)
    (λ sets. Made (change_of x.0 sets) (FilterOf scope update.filter))

-- over the rows of the table
abbrev pub Change : Truth → Update → ℕ × TableDef → Step Body
Change parameters update x = ChangeIn (over parameters x.1) update x

-- the DELETE of this filter; its result has no columns
abbrev pub remove_of : ℕ → Option TypedExpr → Body
remove_of table filter = (body.Remove (record { table = table; filter = filter }), [])

-- a DELETE from a table
abbrev pub Remove : Truth → Delete → ℕ × TableDef → Step Body
Remove parameters delete x = Made (remove_of x.0) (FilterOf (over parameters x.1) delete.filter)

-- ---- statements

-- no answer
abbrev pub Never : {A : Type 0} → Step A
Never known answer = ⊥

-- SELECT, INSERT, UPDATE and DELETE; no other statement is checked
abbrev pub BodyOf : List TableDef → Truth → Statement → Step Body
BodyOf tables parameters (statement.Select select) = SelectOf tables parameters select select.table
BodyOf tables parameters (statement.Insert insert) = Then (Told (table_named tables insert.table)) (InsertInto parameters insert)
BodyOf tables parameters (statement.Update update) = Then (Told (table_named tables update.table)) (Change parameters update)
BodyOf tables parameters (statement.Delete delete) = Then (Told (table_named tables delete.table)) (Remove parameters delete)
BodyOf tables parameters _ = Never

-- the type of a number of the protocol; 0 is none
abbrev pub kind_numbered : ℕ → Result (Option ColType) Fault
kind_numbered n =
    if n == 0 then Ok None
    else (if n == oid_number kind.Bool then Ok (Some kind.Bool)
    else (if n == oid_number kind.Int4 then Ok (Some kind.Int4)
    else (if n == oid_number kind.Int8 then Ok (Some kind.Int8)
    else (if n == oid_number kind.Text then Ok (Some kind.Text)
    else (if n == oid_number kind.Moment then Ok (Some kind.Moment)
    else Err (fault (codes "0A000") (codes "parameter type " ++ decimal n)))))))

-- the type of the first number before those of the others, up to the first fault
abbrev pub with_first : Result (Option ColType) Fault → Result Known Fault → Result Known Fault
with_first (Err e) others = Err e
with_first (Ok kind) (Err e) = Err e
with_first (Ok kind) (Ok kinds) = Ok (kind ∷ kinds)

-- the types of the list: the first that is none is a fault before all of the text
abbrev pub kinds_listed : List ℕ → Result Known Fault
kinds_listed [] = Ok []
kinds_listed (n ∷ ns) = with_first (kind_numbered n) (kinds_listed ns)

-- what is known before the text: without a list, nothing
abbrev pub known_first : Option (List ℕ) → Result Known Fault
known_first None = Ok []
known_first (Some kinds) = kinds_listed kinds

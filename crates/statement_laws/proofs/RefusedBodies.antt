-- Statements with short names: a check that goes through one tells no other name.
use Rattle.std.proofs.Common.{ℕ, suc, List, [], ◌∷◌, ◌++◌, length, codes, refl}
use Rattle.std.specs.Prelude.{Bool as Truth, true, false, Option, Some, None, IfSome, Ok, Err, is_some, slice_get, nat_lt, ◌==◌, if◌then◌else◌, map}
use Rattle.std.specs.List.{AllByRecursion, list_any}
use Rattle.schema.specs.declared.catalogue.ColumnDef.{ColumnDef}
use Rattle.schema.specs.declared.catalogue.TableDef.{TableDef}
use Rattle.sql_tree.specs.declared.expr.Expr.{Expr}
use Rattle.sql_tree.specs.declared.statement.Cell.{Cell}
use Rattle.sql_tree.specs.declared.statement.Cell.TheVariants.{Fill as Default, Given}
use Rattle.sql_tree.specs.declared.statement.Delete.{Delete}
use Rattle.sql_tree.specs.declared.statement.Insert.{Insert}
use Rattle.sql_tree.specs.declared.statement.OrderItem.{OrderItem}
use Rattle.sql_tree.specs.declared.statement.Select.{Select}
use Rattle.sql_tree.specs.declared.statement.SelectItem.{SelectItem}
use Rattle.sql_tree.specs.declared.statement.SelectList.{SelectList}
use Rattle.sql_tree.specs.declared.statement.SelectList.TheVariants.{Star, Count, Items}
use Rattle.sql_tree.specs.declared.statement.SetItem.{SetItem}
use Rattle.sql_tree.specs.declared.statement.Statement.{Statement}
use Rattle.sql_tree.specs.declared.statement.Statement.TheVariants as statement
use Rattle.sql_tree.specs.declared.statement.Update.{Update}
use Rattle.typed_sql.specs.Places.{asks_bool, asks_column, asks_limit, asks_nothing}
use Rattle.typed_sql.specs.Own.{Scope, alone, beside, column_meant, over}
use Rattle.typed_sql.specs.Steps.{Step, fault, Gives, Walk, Each, Maybe, Told}
use Rattle.typed_sql.specs.Typing.{Typed}
use Rattle.catalogue.specs.declared.checked.TypedCell.{TypedCell}
use Rattle.catalogue.specs.Statements.{BodyOf, CellAt, CellIn, Change, ColumnsOf, EndsOf, FilterOf, InsertInto, ItemOf, ListOf, Name, OrderOf, ReadIn, Remove, RowOf, SelectOf, SetOf, Uncounted, bare_read, change_of, column_at, columns_from, default_cell, first_columns, given_cell, has_room, insert_of, is_count, is_there, may_set, named_twice, no_table, order_key, put_cells, read_of, remove_of, set_of, table_from, table_named, uncounted, whole_row, with_key, wrong_number}
use Rattle.statement_laws.specs.Told.{IsTold}
use Rattle.statement_laws.proofs.Steps.{Tells, Found, none_told, tested, gives, told, goes_on, made, walk, every, each_step, maybe}
use Rattle.statement_laws.proofs.Expressions.{Calm, meant_found}

-- ---- the names of a statement

abbrev pub IsCalmItem : SelectItem → Type 0
IsCalmItem item = Calm item.expr

abbrev pub IsCalmList : SelectList → Type 0
IsCalmList Star = Unit {0}
IsCalmList Count = Unit {0}
IsCalmList (Items items) = AllByRecursion IsCalmItem items

abbrev pub IsCalmOrder : OrderItem → Type 0
IsCalmOrder item = IfSome item.qualifier IsTold × IsTold item.column

abbrev pub IsCalmCell : Cell → Type 0
IsCalmCell Default = Unit {0}
IsCalmCell (Given e) = Calm e

abbrev pub IsCalmRow : List Cell → Type 0
IsCalmRow cells = AllByRecursion IsCalmCell cells

abbrev pub IsCalmSet : SetItem → Type 0
IsCalmSet item = IsTold item.column × Calm item.expr

pub record IsCalmSelect (select : Select) : Type 0 where
  pub given : IsCalmList select.list
  pub table : IfSome select.table IsTold
  pub filter : IfSome select.filter Calm
  pub order : AllByRecursion IsCalmOrder select.order
  pub limit : IfSome select.limit Calm

pub record IsCalmInsert (insert : Insert) : Type 0 where
  pub table : IsTold insert.table
  pub columns : IfSome insert.columns (AllByRecursion IsTold)
  pub rows : AllByRecursion IsCalmRow insert.rows

pub record IsCalmUpdate (update : Update) : Type 0 where
  pub table : IsTold update.table
  pub sets : AllByRecursion IsCalmSet update.sets
  pub filter : IfSome update.filter Calm

pub record IsCalmDelete (delete : Delete) : Type 0 where
  pub table : IsTold delete.table
  pub filter : IfSome delete.filter Calm

abbrev pub IsCalm : Statement → Type 0
IsCalm (statement.Select select) = IsCalmSelect select
IsCalm (statement.Insert insert) = IsCalmInsert insert
IsCalm (statement.Update update) = IsCalmUpdate update
IsCalm (statement.Delete delete) = IsCalmDelete delete
IsCalm _ = Unit {0}

-- ---- look-ups

named_found : (name : List ℕ) (table : Option (ℕ × TableDef)) → IsTold name → Found (no_table name table)
named_found name None short = short
named_found name (Some x) short = tt

table_told : (tables : List TableDef) (name : List ℕ) → IsTold name → Tells (Told (table_named tables name))
table_told tables name short = told (table_named tables name) (named_found name (table_from 0 name tables) short)

room_found : (before : ℕ) → Found (has_room before)
room_found before = go (nat_lt before 1664)
  where
    go : (b : Truth) → Found {A = Unit {0}} (if b then Ok tt else Err (fault (codes "54011") []))
    go true = tt
    go false = none_told

uncounted_found : (count there : Truth) → Found (uncounted count there)
uncounted_found true true = tested (codes "count") refl
uncounted_found true false = tt
uncounted_found false there = tt

twice_found : (name before : List ℕ) (x : ℕ × ColumnDef) → IsTold name → Found (named_twice name before x)
twice_found name before x short = go (list_any (λ n. n == x.0) before)
  where
    go : (b : Truth) → Found (if b then Err (fault (codes "42701") name) else Ok x)
    go true = short
    go false = tt

set_found : (key : ℕ) (name before : List ℕ) (x : ℕ × ColumnDef) → IsTold name → Found (may_set key name before x)
set_found key name before x short = go (x.0 == key) (list_any (λ n. n == x.0) before)
  where
    go : (a b : Truth) → Found (if a then Err (fault (codes "0A000") (codes "update of a key column")) else (if b then Err (fault (codes "42601") name) else Ok x))
    go true b = tested (codes "update of a key column") refl
    go false true = short
    go false false = tt

whole_found : (columns : List ColumnDef) (given : List (ℕ × ColumnDef)) (cells : List TypedCell) → Found (whole_row columns given cells)
whole_found columns given cells = go (length cells == length given)
  where
    go : (b : Truth) → Found (if b then Ok (put_cells given cells (map default_cell columns)) else Err wrong_number)
    go true = tt
    go false = none_told

-- ---- parts of statements

module _ (scope : Scope) where
  filter_tells : (filter : Option Expr) → IfSome filter Calm → Tells (FilterOf scope filter)
  filter_tells None calm = gives None
  filter_tells (Some e) calm = maybe (λ e. Typed scope e asks_bool) (Some e) (calm scope asks_bool)

  list_tells : (columns : List ColumnDef) (list : SelectList) → IsCalmList list → Tells (ListOf scope columns list)
  list_tells columns Star calm = gives (columns_from 0 columns)
  list_tells columns Count calm = gives []
  list_tells columns (Items items) calm =
      walk (ItemOf scope) (λ before e. suc before) items
      (every IsCalmItem (λ item. (before : ℕ) → Tells (ItemOf scope before item)) (λ item is before. goes_on (Told (has_room before)) (λ room. Typed scope item.expr asks_nothing) (told (has_room before) (room_found before)) (λ room. is scope asks_nothing)) items calm) 0

  uncounted_tells : {A : Type 0} (count there : Truth) (step : Step A) → Tells step → Tells (Uncounted count there step)
  uncounted_tells count there step tells = goes_on (Told (uncounted count there)) (λ free. step) (told (uncounted count there) (uncounted_found count there)) (λ free. tells)

  limit_tells : (limit : Option Expr) → IfSome limit Calm → Tells (Maybe (λ e. Typed scope e asks_limit) limit)
  limit_tells None calm = gives None
  limit_tells (Some e) calm = maybe (λ e. Typed scope e asks_limit) (Some e) (calm scope asks_limit)

  order_tells : (items : List OrderItem) → AllByRecursion IsCalmOrder items → Tells (Each (OrderOf scope) items)
  order_tells items all =
      each_step (OrderOf scope) items (every IsCalmOrder (λ item. Tells (OrderOf scope item))
      (λ item is. made (order_key item.falling) (Told (column_meant scope item.qualifier item.column)) (told (column_meant scope item.qualifier item.column) (meant_found scope item.qualifier item.column is.0 is.1))) items all)

  ends_tell : (count : Truth) (select : Select) (table : TableDef) → IsCalmSelect select → Tells (EndsOf count scope select table)
  ends_tell count select table is =
      goes_on (Uncounted count (is_there select.order) (Each (OrderOf scope) select.order)) _
      (uncounted_tells count (is_there select.order) (Each (OrderOf scope) select.order) (order_tells select.order is.order))
      (λ order. goes_on (Uncounted count (is_some select.limit) (Maybe (λ e. Typed scope e asks_limit) select.limit)) _
      (uncounted_tells count (is_some select.limit) (Maybe (λ e. Typed scope e asks_limit) select.limit) (limit_tells select.limit is.limit))
      (λ limit. uncounted_tells count select.for_update (Gives (with_key count table order, limit)) (gives (with_key count table order, limit))))

  read_tells : (select : Select) (x : ℕ × TableDef) → IsCalmSelect select → Tells (ReadIn scope select x)
  read_tells select x is =
      goes_on (ListOf scope (x.1).columns select.list) _ (list_tells (x.1).columns select.list is.given)
      (λ list. goes_on (FilterOf scope select.filter) _ (filter_tells select.filter is.filter)
      (λ filter. made (read_of x select list filter) (EndsOf (is_count select.list) scope select x.1) (ends_tell (is_count select.list) select x.1 is)))

  cell_tells : (column : ColumnDef) (c : Cell) → IsCalmCell c → Tells (CellIn scope column c)
  cell_tells column Default calm = gives (default_cell column)
  cell_tells column (Given e) calm = made given_cell (Typed scope e (asks_column column.kind)) (calm scope (asks_column column.kind))

  cell_at_tells : (column : Option ColumnDef) (c : Cell) → IsCalmCell c → Tells (CellAt scope column c)
  cell_at_tells None c calm = told (Err wrong_number) none_told
  cell_at_tells (Some column) c calm = cell_tells column c calm

  row_tells : (columns : List ColumnDef) (given : List (ℕ × ColumnDef)) (row : List Cell) → IsCalmRow row → Tells (RowOf scope columns given row)
  row_tells columns given row calm =
      goes_on (Walk (λ at c. CellAt scope (column_at (slice_get given at)) c) (λ at c. suc at) 0 row) (λ cells. Told (whole_row columns given cells))
      (walk (λ at c. CellAt scope (column_at (slice_get given at)) c) (λ at c. suc at) row (every IsCalmCell (λ c. (at : ℕ) → Tells (CellAt scope (column_at (slice_get given at)) c)) (λ c is at. cell_at_tells (column_at (slice_get given at)) c is) row calm) 0)
      (λ cells. told (whole_row columns given cells) (whole_found columns given cells))

  columns_tell : (columns : List ColumnDef) (insert : Insert) (names : Option (List (List ℕ))) → IfSome names (AllByRecursion IsTold) → Tells (ColumnsOf scope columns insert names)
  columns_tell columns insert None short = gives (first_columns columns insert.rows)
  columns_tell columns insert (Some names) short =
      walk (Name scope) (λ before x. before ++ x.0 ∷ []) names
      (every IsTold (λ name. (before : List ℕ) → Tells (Name scope before name))
      (λ name is before. goes_on (Told (column_meant scope None name)) (λ x. Told (named_twice name before x)) (told (column_meant scope None name) (meant_found scope None name tt is)) (λ x. told (named_twice name before x) (twice_found name before x is))) names short) []

  set_tells : (key : ℕ) (item : SetItem) (before : List ℕ) → IsCalmSet item → Tells (SetOf scope key before item)
  set_tells key item before is =
      goes_on (Told (column_meant scope None item.column)) _ (told (column_meant scope None item.column) (meant_found scope None item.column tt is.0))
      (λ x. goes_on (Told (may_set key item.column before x)) _ (told (may_set key item.column before x) (set_found key item.column before x is.0))
      (λ y. made (set_of y.0) (Typed scope item.expr (asks_column (y.1).kind)) (is.1 scope (asks_column (y.1).kind))))

-- ---- statements

select_tells : (tables : List TableDef) (select : Select) (name : Option (List ℕ)) → IfSome name IsTold → IsCalmSelect select → Tells (SelectOf tables false select name)
select_tells tables select None short is = made (bare_read select) (ListOf (alone false) [] select.list) (list_tells (alone false) [] select.list is.given)
select_tells tables select (Some name) short is = goes_on (Told (table_named tables name)) _ (table_told tables name short) (λ x. read_tells (over false x.1) select x is)

pub body_tells : (tables : List TableDef) (s : Statement) → IsCalm s → Tells (BodyOf tables false s)
body_tells tables (statement.Select select) is = select_tells tables select select.table is.table is
body_tells tables (statement.Insert insert) is =
    goes_on (Told (table_named tables insert.table)) (InsertInto false insert) (table_told tables insert.table is.table)
    (λ x. goes_on (ColumnsOf (over false x.1) (x.1).columns insert insert.columns) _ (columns_tell (over false x.1) (x.1).columns insert insert.columns is.columns)
    (λ given. made (insert_of x.0) (Each (RowOf (beside false x.1) (x.1).columns given) insert.rows)
    (each_step (RowOf (beside false x.1) (x.1).columns given) insert.rows (every IsCalmRow (λ row. Tells (RowOf (beside false x.1) (x.1).columns given row)) (λ row calm. row_tells (beside false x.1) (x.1).columns given row calm) insert.rows is.rows))))
body_tells tables (statement.Update update) is =
    goes_on (Told (table_named tables update.table)) (Change false update) (table_told tables update.table is.table)
    (λ x. goes_on (Walk (SetOf (over false x.1) (x.1).key) (λ before s. before ++ s.column ∷ []) [] update.sets) _
    (walk (SetOf (over false x.1) (x.1).key) (λ before s. before ++ s.column ∷ []) update.sets (every IsCalmSet (λ item. (before : List ℕ) → Tells (SetOf (over false x.1) (x.1).key before item)) (λ item calm before. set_tells (over false x.1) (x.1).key item before calm) update.sets is.sets) [])
    (λ sets. made (change_of x.0 sets) (FilterOf (over false x.1) update.filter) (filter_tells (over false x.1) update.filter is.filter)))
body_tells tables (statement.Delete delete) is =
    goes_on (Told (table_named tables delete.table)) (Remove false delete) (table_told tables delete.table is.table)
    (λ x. made (remove_of x.0) (FilterOf (over false x.1) delete.filter) (filter_tells (over false x.1) delete.filter is.filter))
body_tells tables s is = λ known answer took. absurd took

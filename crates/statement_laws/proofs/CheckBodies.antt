-- What a statement is over the tables of a catalogue is one.
use Rattle.std.proofs.Common.{◌≡◌, ◌∙◌, ℕ, suc, List, [], ◌∷◌, ◌++◌, sym}
use Rattle.std.specs.Prelude.{Bool as Truth, Option, Some, None, Result, Ok, Err, is_some, slice_get}
use Rattle.schema.specs.declared.catalogue.ColumnDef.{ColumnDef}
use Rattle.schema.specs.declared.catalogue.TableDef.{TableDef}
use Rattle.sql_tree.specs.declared.expr.Expr.{Expr}
use Rattle.sql_tree.specs.declared.statement.Cell.{Cell}
use Rattle.sql_tree.specs.declared.statement.Cell.TheVariants.{Fill as Default, Given}
use Rattle.sql_tree.specs.declared.statement.Delete.{Delete}
use Rattle.sql_tree.specs.declared.statement.Insert.{Insert}
use Rattle.sql_tree.specs.declared.statement.OrderItem.{OrderItem}
use Rattle.sql_tree.specs.declared.statement.Select.{Select}
use Rattle.sql_tree.specs.declared.statement.SelectItem.{SelectItem}
use Rattle.sql_tree.specs.declared.statement.SelectList.{SelectList}
use Rattle.sql_tree.specs.declared.statement.SelectList.TheVariants.{Star, Count, Items}
use Rattle.sql_tree.specs.declared.statement.SetItem.{SetItem}
use Rattle.sql_tree.specs.declared.statement.Statement.{Statement}
use Rattle.sql_tree.specs.declared.statement.Statement.TheVariants as statement
use Rattle.sql_tree.specs.declared.statement.Update.{Update}
use Rattle.typed_sql.specs.declared.typed.TypedExpr.{TypedExpr}
use Rattle.typed_sql.specs.Own.{Scope, over, beside, alone, column_meant}
use Rattle.typed_sql.specs.Places.{asks_bool, asks_column, asks_limit, asks_nothing}
use Rattle.typed_sql.specs.Steps.{Known, Fault, Answer, Step, Gives, Then, Made, Walk, Each, Maybe, Told}
use Rattle.typed_sql.specs.Typing.{Typed}
use Rattle.catalogue.specs.declared.checked.OrderKey.{OrderKey}
use Rattle.catalogue.specs.declared.checked.TypedCell.{TypedCell}
use Rattle.catalogue.specs.Checking.{BodyBehind}
use Rattle.catalogue.specs.Statements.{Body, BodyOf, CellAt, CellIn, Change, ColumnsOf, Ends, EndsOf, FilterOf, InsertInto, ItemOf, ListOf, Name, OrderOf, ReadFrom, ReadIn, Remove, RowOf, SelectOf, SetOf, Uncounted, bare_read, change_of, column_at, columns_from, default_cell, first_columns, given_cell, has_room, insert_of, is_count, is_there, may_set, named_twice, order_key, read_of, remove_of, set_of, table_named, uncounted, whole_row, with_key, wrong_number}
use Rattle.statement_laws.proofs.Singles.{Single, gives, told, followed, made, walk, every, for_each, maybe}
use Rattle.statement_laws.proofs.CheckExprs.{one}

-- what stands behind WHERE
free_one : {A : Type 0} (count there : Truth) (step : Step A) → Single step → Single (Uncounted count there step)
free_one count there step same = followed (Told (uncounted count there)) (λ free. step) (told (uncounted count there)) (λ free. same)

abbrev ends_of : Truth → TableDef → List OrderKey → Option TypedExpr → Ends
ends_of count table order limit = (with_key count table order, limit)

module _ (scope : Scope) where
  filter_one : (filter : Option Expr) → Single (FilterOf scope filter)
  filter_one filter = maybe (λ e. Typed scope e asks_bool) (λ e. one scope e asks_bool) filter

  limit_one : (limit : Option Expr) → Single (Maybe (λ e. Typed scope e asks_limit) limit)
  limit_one limit = maybe (λ e. Typed scope e asks_limit) (λ e. one scope e asks_limit) limit

  -- ---- SELECT

  item_one : (item : SelectItem) (before : ℕ) → Single (ItemOf scope before item)
  item_one item before = followed (Told (has_room before)) (λ room. Typed scope item.expr asks_nothing) (told (has_room before)) (λ room. one scope item.expr asks_nothing)

  list_one : (columns : List ColumnDef) (list : SelectList) → Single (ListOf scope columns list)
  list_one columns Star = gives (columns_from 0 columns)
  list_one columns Count = gives {A = List TypedExpr} []
  list_one columns (Items items) =
      walk (ItemOf scope) (λ before e. suc before) items (every (λ (item : SelectItem). (before : ℕ) → Single (ItemOf scope before item)) item_one items) 0

  order_one : (item : OrderItem) → Single (OrderOf scope item)
  order_one item = made (order_key item.falling) (Told (column_meant scope item.qualifier item.column)) (told (column_meant scope item.qualifier item.column))

  orders_one : (order : List OrderItem) → Single (Each (OrderOf scope) order)
  orders_one order = for_each (OrderOf scope) order (every (λ (item : OrderItem). Single (OrderOf scope item)) order_one order)

  ends_one : (count : Truth) (select : Select) (table : TableDef) → Single (EndsOf count scope select table)
  ends_one count select table =
      followed (Uncounted count (is_there select.order) (Each (OrderOf scope) select.order))
      (λ order. Then (Uncounted count (is_some select.limit) (Maybe (λ e. Typed scope e asks_limit) select.limit)) (λ limit. Uncounted count select.for_update (Gives (ends_of count table order limit))))
      (free_one count (is_there select.order) (Each (OrderOf scope) select.order) (orders_one select.order))
      (λ order. followed (Uncounted count (is_some select.limit) (Maybe (λ e. Typed scope e asks_limit) select.limit))
      (λ limit. Uncounted count select.for_update (Gives (ends_of count table order limit)))
      (free_one count (is_some select.limit) (Maybe (λ e. Typed scope e asks_limit) select.limit) (limit_one select.limit))
      (λ limit. free_one count select.for_update (Gives (ends_of count table order limit)) (gives (ends_of count table order limit))))

  read_one : (select : Select) (x : ℕ × TableDef) → Single (ReadIn scope select x)
  read_one select x =
      followed (ListOf scope (x.1).columns select.list)
      (λ list. Then (FilterOf scope select.filter) (λ filter. Made (read_of x select list filter) (EndsOf (is_count select.list) scope select x.1)))
      (list_one (x.1).columns select.list)
      (λ list. followed (FilterOf scope select.filter) (λ filter. Made (read_of x select list filter) (EndsOf (is_count select.list) scope select x.1)) (filter_one select.filter)
      (λ filter. made (read_of x select list filter) (EndsOf (is_count select.list) scope select x.1) (ends_one (is_count select.list) select x.1)))

  -- ---- INSERT

  name_one : (name before : List ℕ) → Single (Name scope before name)
  name_one name before = followed (Told (column_meant scope None name)) (λ x. Told (named_twice name before x)) (told (column_meant scope None name)) (λ x. told (named_twice name before x))

  columns_one : (columns : List ColumnDef) (insert : Insert) (names : Option (List (List ℕ))) → Single (ColumnsOf scope columns insert names)
  columns_one columns insert None = gives (first_columns columns insert.rows)
  columns_one columns insert (Some names) =
      walk (Name scope) (λ before x. before ++ x.0 ∷ []) names (every (λ (name : List ℕ). (before : List ℕ) → Single (Name scope before name)) name_one names) []

  cell_one : (column : ColumnDef) (c : Cell) → Single (CellIn scope column c)
  cell_one column Default = gives (default_cell column)
  cell_one column (Given e) = made given_cell (Typed scope e (asks_column column.kind)) (one scope e (asks_column column.kind))

  cell_at_one : (column : Option ColumnDef) (c : Cell) → Single (CellAt scope column c)
  cell_at_one None c = told {A = TypedCell} (Err wrong_number)
  cell_at_one (Some column) c = cell_one column c

  row_one : (columns : List ColumnDef) (given : List (ℕ × ColumnDef)) (row : List Cell) → Single (RowOf scope columns given row)
  row_one columns given row =
      followed (Walk (λ at c. CellAt scope (column_at (slice_get given at)) c) (λ at c. suc at) 0 row) (λ cells. Told (whole_row columns given cells))
      (walk (λ at c. CellAt scope (column_at (slice_get given at)) c) (λ at c. suc at) row
      (every (λ (c : Cell). (at : ℕ) → Single (CellAt scope (column_at (slice_get given at)) c)) (λ c at. cell_at_one (column_at (slice_get given at)) c) row) 0)
      (λ cells. told (whole_row columns given cells))

  -- ---- UPDATE

  set_one : (key : ℕ) (item : SetItem) (before : List ℕ) → Single (SetOf scope key before item)
  set_one key item before =
      followed (Told (column_meant scope None item.column))
      (λ x. Then (Told (may_set key item.column before x)) (λ y. Made (set_of y.0) (Typed scope item.expr (asks_column (y.1).kind))))
      (told (column_meant scope None item.column))
      (λ x. followed (Told (may_set key item.column before x)) (λ y. Made (set_of y.0) (Typed scope item.expr (asks_column (y.1).kind))) (told (may_set key item.column before x))
      (λ y. made (set_of y.0) (Typed scope item.expr (asks_column (y.1).kind)) (one scope item.expr (asks_column (y.1).kind))))

-- ---- statements

module _ (tables : List TableDef) (parameters : Truth) where
  select_one : (select : Select) (name : Option (List ℕ)) → Single (SelectOf tables parameters select name)
  select_one select None = made (bare_read select) (ListOf (alone parameters) [] select.list) (list_one (alone parameters) [] select.list)
  select_one select (Some name) =
      followed (Told (table_named tables name)) (ReadFrom parameters select) (told (table_named tables name)) (λ x. read_one (over parameters x.1) select x)

  insert_one : (insert : Insert) (x : ℕ × TableDef) → Single (InsertInto parameters insert x)
  insert_one insert x =
      followed (ColumnsOf (over parameters x.1) (x.1).columns insert insert.columns)
      (λ given. Made (insert_of x.0) (Each (RowOf (beside parameters x.1) (x.1).columns given) insert.rows))
      (columns_one (over parameters x.1) (x.1).columns insert insert.columns)
      (λ given. made (insert_of x.0) (Each (RowOf (beside parameters x.1) (x.1).columns given) insert.rows)
      (for_each (RowOf (beside parameters x.1) (x.1).columns given) insert.rows
      (every (λ (row : List Cell). Single (RowOf (beside parameters x.1) (x.1).columns given row)) (row_one (beside parameters x.1) (x.1).columns given) insert.rows)))

  change_one : (update : Update) (x : ℕ × TableDef) → Single (Change parameters update x)
  change_one update x =
      let scope = over parameters x.1 in
      followed (Walk (SetOf scope (x.1).key) (λ before s. before ++ s.column ∷ []) [] update.sets) (λ sets. Made (change_of x.0 sets) (FilterOf scope update.filter))
      (walk (SetOf scope (x.1).key) (λ before s. before ++ s.column ∷ []) update.sets
      (every (λ (item : SetItem). (before : List ℕ) → Single (SetOf scope (x.1).key before item)) (set_one scope (x.1).key) update.sets) [])
      (λ sets. made (change_of x.0 sets) (FilterOf scope update.filter) (filter_one scope update.filter))

  remove_one : (delete : Delete) (x : ℕ × TableDef) → Single (Remove parameters delete x)
  remove_one delete x = made (remove_of x.0) (FilterOf (over parameters x.1) delete.filter) (filter_one (over parameters x.1) delete.filter)

  body_one : (s : Statement) → Single (BodyOf tables parameters s)
  body_one (statement.Select select) = select_one select select.table
  body_one (statement.Insert insert) =
      followed (Told (table_named tables insert.table)) (InsertInto parameters insert) (told (table_named tables insert.table)) (insert_one insert)
  body_one (statement.Update update) =
      followed (Told (table_named tables update.table)) (Change parameters update) (told (table_named tables update.table)) (change_one update)
  body_one (statement.Delete delete) =
      followed (Told (table_named tables delete.table)) (Remove parameters delete) (told (table_named tables delete.table)) (remove_one delete)
  body_one s = λ known a b p q. absurd p

  -- behind the list of the parameters' types
  pub answer_one : (s : Statement) (first : Result Known Fault) (a b : Answer Body) → BodyBehind tables s parameters first a → BodyBehind tables s parameters first b → a ≡ b
  answer_one s (Err e) a b p q = p ∙ sym q
  answer_one s (Ok known) a b p q = body_one s known a b p q

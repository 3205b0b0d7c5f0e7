-- The names of the columns of a result have room in a message.
use Rattle.std.proofs.Common.{◌≡◌, ◌∙◌, ◌≤◌, ◌<◌, ℕ, suc, List, [], ◌∷◌, ◌++◌, length, map, refl, ap, sym, subst, arith, codes, inl, inr, ◌⊎◌}
use Rattle.std.specs.Prelude.{◌&&◌, not, nat_le, nat_lt, bytes_eq, Bool as Truth, true, false, All, Option, Some, None, Result, Ok, IfSome, slice_get, if◌then◌else◌}
use Rattle.std.specs.List.{AllByRecursion, list_all}
use Rattle.std.proofs.lemmas.Bool.{false≢true, leb-true, ltb-true}
use Rattle.std.proofs.lemmas.List.Elements.{All-nil, All-cons}
use Rattle.std.proofs.lemmas.Slice.Eq.{bytes_eq-Decides}
use Rattle.pg_values.specs.declared.col_type.ColType.{ColType}
use Rattle.pg_values.specs.declared.col_type.ColType.TheVariants.{Int8}
use Rattle.schema.specs.declared.catalogue.ColumnDef.{ColumnDef}
use Rattle.schema.specs.declared.catalogue.TableDef.{TableDef}
use Rattle.schema.specs.Allowed.{AreAllowed, AreColumns, AreTables}
use Rattle.sql_tree.specs.declared.expr.Expr.{Expr, roll-Expr, out-roll-Expr}
use Rattle.sql_tree.specs.declared.expr.Expr.TheOpen.{Expr-F}
use Rattle.sql_tree.specs.declared.expr.Expr.TheVariants as expr
use Rattle.sql_tree.specs.declared.expr.ProductPart.{ProductPart}
use Rattle.sql_tree.specs.declared.expr.SumPart.{SumPart}
use Rattle.sql_tree.specs.declared.statement.Select.{Select}
use Rattle.sql_tree.specs.declared.statement.SelectItem.{SelectItem}
use Rattle.sql_tree.specs.declared.statement.SelectList.{SelectList}
use Rattle.sql_tree.specs.declared.statement.SelectList.TheVariants.{Star, Count, Items}
use Rattle.sql_tree.specs.declared.statement.Statement.{Statement}
use Rattle.sql_tree.specs.declared.statement.Statement.TheVariants as statement
use Rattle.sql_reader.specs.Text.{IsTextOf}
use Rattle.sql_profile.specs.Formed.{HasShortNames, IsShortItem, IsShortList}
use Rattle.sql_profile.proofs.FormedLaw.{texts_are_formed}
use Rattle.typed_sql.specs.declared.asks.Asks.{Asks}
use Rattle.typed_sql.specs.declared.typed.TypedExpr.{TypedExpr}
use Rattle.typed_sql.specs.Own.{Scope, alone, beside, column_from, column_meant, column_of, no_column, no_table as meant_in, over, wrong_table}
use Rattle.typed_sql.specs.Places.{asks_nothing, same_kind}
use Rattle.typed_sql.specs.Steps.{Fault, Made, Walk, Each, Told}
use Rattle.typed_sql.specs.Typing.{Fits, Form, Layer, Place, Typed, column_expr}
use Rattle.typed_sql.specs.Meaning.{under}
use Rattle.typed_sql.proofs.Forms.{typed_is}
use Rattle.catalogue.specs.declared.checked.Checked.{Checked}
use Rattle.catalogue.specs.declared.checked.CheckedBody.{CheckedBody}
use Rattle.catalogue.specs.declared.checked.CheckedBody.TheVariants as body
use Rattle.catalogue.specs.declared.checked.CheckedRead.{CheckedRead}
use Rattle.catalogue.specs.declared.checked.ColumnDesc.{ColumnDesc}
use Rattle.catalogue.specs.Checking.{AnswersCheck}
use Rattle.catalogue.specs.Naming.{item_name, own_name}
use Rattle.catalogue.specs.Statements.{Body, BodyOf, Change, ColumnsOf, EndsOf, FilterOf, InsertInto, ItemOf, ListOf, ReadFrom, Remove, RowOf, SelectOf, SetOf, bare_read, change_of, column_desc, columns_from, has_room, insert_of, is_count, item_columns, no_table, read_of, remove_of, result_columns, table_from, table_named}
use Rattle.checked_sql.specs.Sound.{Names, has_no_zero, is_sound}
use Rattle.checked_sql.specs.OfCatalogue.{are_results, around, is_bare, is_body, is_change, is_count_result, is_empty, is_filter, is_insert, is_limit, is_list, is_name, is_none, is_order, is_plain, is_read_at, is_read_from, is_read_of, is_remove, is_result, of_table}
use Rattle.statement_laws.proofs.RunnableLaw.{is_of_tables}
use Rattle.play.specs.Answering.{AreNamed, IsNamed}
use Rattle.play.proofs.Sure.{FoundIs, Sure, always, behind, gives, goes_on, made, made_of, told}
use Rattle.play.proofs.RowLemmas.{no_zero}

-- ---- the columns of a table

abbrev IsShort : List ℕ → Type 0
IsShort name = length name ≤ 63

short_by : (name : List ℕ) → nat_le (length name) 63 ≡ true → IsShort name
short_by name is = leb-true (length name) 63 is

abbrev HasShort : List ColumnDef → Type 0
HasShort columns = AllByRecursion (λ c. IsShort c.name) columns

abbrev AreShort : List ColumnDesc → Type 0
AreShort columns = AllByRecursion (λ c. IsShort c.name) columns

columns_short : (key : ℕ) (serial : Option ℕ) (before columns : List ColumnDef) → AreColumns key serial before columns → HasShort columns
columns_short key serial before [] are = tt
columns_short key serial before (column ∷ columns) are = ((are.0).named.1, columns_short key serial (before ++ column ∷ []) columns are.2)

abbrev IsShortTable : ℕ × TableDef → Type 0
IsShortTable x = HasShort (x.1).columns

table_found : (tables before : List TableDef) (k : ℕ) (name : List ℕ) → AreTables before tables → IfSome (table_from k name tables) IsShortTable
table_found [] before k name are = tt
table_found (table ∷ tables) before k name are =
    go (bytes_eq table.name name) (columns_short table.key table.serial [] table.columns (are.0).columns) (table_found tables (before ++ table ∷ []) (suc k) name are.1)
  where
    go : (b : Truth) → HasShort table.columns → IfSome (table_from (suc k) name tables) IsShortTable → IfSome (if b then Some (k, table) else table_from (suc k) name tables) IsShortTable
    go true own rest = own
    go false own rest = rest

named_found : (name : List ℕ) (table : Option (ℕ × TableDef)) → IfSome table IsShortTable → FoundIs IsShortTable (no_table name table)
named_found name None is = tt
named_found name (Some x) is = is

table_sure : (tables : List TableDef) (name : List ℕ) → AreAllowed tables → Sure IsShortTable (Told (table_named tables name))
table_sure tables name allowed = told IsShortTable (table_named tables name) (named_found name (table_from 0 name tables) (table_found tables [] 0 name allowed.1))

-- ---- a name that is one of the columns

abbrev IsOfShort : List ℕ → ℕ × ColumnDef → Type 0
IsOfShort name x = IsShort name

column_found : (columns : List ColumnDef) (k : ℕ) (name : List ℕ) → HasShort columns → IfSome (column_from k name columns) (IsOfShort name)
column_found [] k name all = tt
column_found (column ∷ columns) k name all = go (bytes_eq column.name name) refl (column_found columns (suc k) name all.1)
  where
    go : (b : Truth) → bytes_eq column.name name ≡ b → IfSome (column_from (suc k) name columns) (IsOfShort name) → IfSome (if b then Some (k, column) else column_from (suc k) name columns) (IsOfShort name)
    go true same rest = subst IsShort ((bytes_eq-Decides column.name name).0 same) all.0
    go false same rest = rest

abbrev HasShortColumns : Option TableDef → Type 0
HasShortColumns None = Unit {0}
HasShortColumns (Some table) = HasShort table.columns

column_in : (table : Option TableDef) (may : Truth) (name : List ℕ) → HasShortColumns table → IfSome (column_of table may name) (IsOfShort name)
column_in None may name all = tt
column_in (Some table) true name all = column_found table.columns 0 name all
column_in (Some table) false name all = tt

there_found : (name : List ℕ) (column : Option (ℕ × ColumnDef)) → IfSome column (IsOfShort name) → FoundIs (IsOfShort name) (no_column name column)
there_found name None is = tt
there_found name (Some x) is = is

meant_found : (name : List ℕ) (column : Result (ℕ × ColumnDef) Fault) (wrong : Option (List ℕ)) → FoundIs (IsOfShort name) column → FoundIs (IsOfShort name) (meant_in column wrong)
meant_found name column None is = is
meant_found name column (Some qualifier) is = tt

-- ---- the items of a list

-- an expression is a column, or its name is short
is_named : (of : Expr) → ((q : Option (List ℕ)) × (name : List ℕ) × (of ≡ expr.Column q name)) ⊎ IsShort (own_name of)
is_named (expr.Column q name) = inl (q, name, refl)
is_named of = inr (short_by (own_name of) refl)

module _ (scope : Scope) (all : HasShortColumns scope.table) where
  rolled : (d : Expr-F Expr ProductPart SumPart) → Typed scope (roll-Expr d) ≡ Layer scope (under scope) d
  rolled d = typed_is scope (roll-Expr d) ∙ ap (λ (x : Expr-F Expr ProductPart SumPart). Layer scope (under scope) x) (out-roll-Expr d)

  layer_sure : (Is : TypedExpr → Type 0) (d : Expr-F Expr ProductPart SumPart) (e : Expr) → roll-Expr d ≡ e → (asks : Asks) → Sure (λ x. (y : TypedExpr) → Is y) (Form scope (under scope) d asks.leaf) → Sure Is (Typed scope e asks)
  layer_sure Is d e is asks form =
      subst (λ (x : Expr). Sure Is (Typed scope x asks)) is
      (subst (λ (at : Place). Sure Is (at asks)) (sym (rolled d))
      (goes_on (λ x. (y : TypedExpr) → Is y) Is (Form scope (under scope) d asks.leaf) (Fits asks) form (λ x all. always Is (Fits asks x) all)))

  column_sure : (q : Option (List ℕ)) (name : List ℕ) → Sure (λ e. IsShort name) (Typed scope (expr.Column q name) asks_nothing)
  column_sure q name =
      layer_sure (λ e. IsShort name) (Expr-F.Column q name) (expr.Column q name) (expr.rolls-Column q name) asks_nothing
      (made (IsOfShort name) (λ x. (y : TypedExpr) → IsShort name) column_expr (Told (column_meant scope q name))
      (told (IsOfShort name) (column_meant scope q name)
      (meant_found name (no_column name (column_of scope.table scope.columns name)) (wrong_table scope.table q)
      (there_found name (column_of scope.table scope.columns name) (column_in scope.table scope.columns name all))))
      (λ x short y. short))

  own_sure : (of : Expr) → ((q : Option (List ℕ)) × (name : List ℕ) × (of ≡ expr.Column q name)) ⊎ IsShort (own_name of) → Sure (λ e. IsShort (own_name of)) (Typed scope of asks_nothing)
  own_sure of (inl (q, name, is)) = subst (λ (x : Expr). Sure (λ e. IsShort (own_name x)) (Typed scope x asks_nothing)) (sym is) (column_sure q name)
  own_sure of (inr short) = always (λ e. IsShort (own_name of)) (Typed scope of asks_nothing) (λ e. short)

  named_sure : (name : Option (List ℕ)) (of : Expr) → IfSome name IsShort → Sure (λ e. IsShort (item_name name of)) (Typed scope of asks_nothing)
  named_sure (Some name) of short = always (λ e. IsShort name) (Typed scope of asks_nothing) (λ e. short)
  named_sure None of short = own_sure of (is_named of)

  item_sure : (before : ℕ) (item : SelectItem) → IsShortItem item → Sure (λ e. IsShort (item_name item.name item.expr)) (ItemOf scope before item)
  item_sure before item short =
      behind (λ e. IsShort (item_name item.name item.expr)) (Told (has_room before)) (λ room. Typed scope item.expr asks_nothing) (λ room. named_sure item.name item.expr short)

  items_sure : (items : List SelectItem) (before : ℕ) → AllByRecursion IsShortItem items → Sure (λ es. AreShort (item_columns items es)) (Walk (ItemOf scope) (λ before e. suc before) before items)
  items_sure [] before short = gives (λ es. AreShort (item_columns [] es)) [] tt
  items_sure (item ∷ items) before short =
      let others = Walk (ItemOf scope) (λ before e. suc before) (suc before) items in
      goes_on (λ e. IsShort (item_name item.name item.expr)) (λ es. AreShort (item_columns (item ∷ items) es)) (ItemOf scope before item) (λ e. Made (λ es. e ∷ es) others) (item_sure before item short.0)
      (λ e own. made (λ es. AreShort (item_columns items es)) (λ es. AreShort (item_columns (item ∷ items) es)) (λ es. e ∷ es) others (items_sure items (suc before) short.1) (λ es rest. (own, rest)))

  all_short : (columns : List ColumnDef) → HasShort columns → AreShort (map (λ c. column_desc c.name c.kind) columns)
  all_short [] short = tt
  all_short (c ∷ columns) short = (short.0, all_short columns short.1)

  list_sure : (columns : List ColumnDef) (list : SelectList) → HasShort columns → IsShortList list → Sure (λ es. AreShort (result_columns columns list es)) (ListOf scope columns list)
  list_sure columns Star own short = gives (λ es. AreShort (result_columns columns Star es)) (columns_from 0 columns) (all_short columns own)
  list_sure columns Count own short = gives (λ es. AreShort (result_columns columns Count es)) [] (short_by (codes "count") refl, tt)
  list_sure columns (Items items) own short = items_sure items 0 short

-- ---- statements

abbrev IsShortBody : Body → Type 0
IsShortBody b = AreShort b.1

read_sure : (select : Select) (x : ℕ × TableDef) → IsShortTable x → IsShortList select.list → Sure IsShortBody (ReadFrom false select x)
read_sure select x columns short =
    let scope = over false x.1 in
    goes_on (λ list. AreShort (result_columns (x.1).columns select.list list)) IsShortBody (ListOf scope (x.1).columns select.list) _ (list_sure scope columns (x.1).columns select.list columns short)
    (λ list own. behind IsShortBody (FilterOf scope select.filter) _
    (λ filter. made_of IsShortBody (read_of x select list filter) (EndsOf (is_count select.list) scope select x.1) (λ ends. own)))

select_sure : (tables : List TableDef) (select : Select) (name : Option (List ℕ)) → AreAllowed tables → IsShortList select.list → Sure IsShortBody (SelectOf tables false select name)
select_sure tables select None allowed short =
    made (λ list. AreShort (result_columns [] select.list list)) IsShortBody (bare_read select) (ListOf (alone false) [] select.list) (list_sure (alone false) tt [] select.list tt short) (λ list own. own)
select_sure tables select (Some name) allowed short =
    goes_on IsShortTable IsShortBody (Told (table_named tables name)) (ReadFrom false select) (table_sure tables name allowed) (λ x columns. read_sure select x columns short)

body_sure : (tables : List TableDef) (s : Statement) → AreAllowed tables → HasShortNames s → Sure IsShortBody (BodyOf tables false s)
body_sure tables (statement.Select select) allowed short = select_sure tables select select.table allowed short
body_sure tables (statement.Insert insert) allowed short =
    behind IsShortBody (Told (table_named tables insert.table)) (InsertInto false insert)
    (λ x. behind IsShortBody (ColumnsOf (over false x.1) (x.1).columns insert insert.columns) _
    (λ given. made_of IsShortBody (insert_of x.0) (Each (RowOf (beside false x.1) (x.1).columns given) insert.rows) (λ rows. tt)))
body_sure tables (statement.Update update) allowed short =
    behind IsShortBody (Told (table_named tables update.table)) (Change false update)
    (λ x. behind IsShortBody (Walk (SetOf (over false x.1) (x.1).key) (λ before s. before ++ s.column ∷ []) [] update.sets) _
    (λ sets. made_of IsShortBody (change_of x.0 sets) (FilterOf (over false x.1) update.filter) (λ filter. tt)))
body_sure tables (statement.Delete delete) allowed short =
    behind IsShortBody (Told (table_named tables delete.table)) (Remove false delete)
    (λ x. made_of IsShortBody (remove_of x.0) (FilterOf (over false x.1) delete.filter) (λ filter. tt))
body_sure tables s allowed short = λ known answer took. absurd took

-- ---- no zero bytes, and no more columns than a SELECT may have

both_of : (a b : Truth) → (a && b) ≡ true → (a ≡ true) × (b ≡ true)
both_of true b is = (refl, is)
both_of false b is = absurd (false≢true is)

abbrev AreClean : List ColumnDesc → Type 0
AreClean columns = AllByRecursion (λ c. has_no_zero c.name ≡ true) columns

abbrev FewClean : List ColumnDesc → Type 0
FewClean columns = AreClean columns × (length columns ≤ 1664)

name_clean : (k : Truth) (name : List ℕ) → (k && is_name name) ≡ true → has_no_zero name ≡ true
name_clean k name is = (both_of (not (is_empty name)) (has_no_zero name) (both_of k (is_name name) is).1).1

results_clean : (es : List TypedExpr) (columns : List ColumnDesc) → are_results es columns ≡ true → AreClean columns × (length columns ≡ length es)
results_clean [] [] is = (tt, refl)
results_clean [] (c ∷ columns) is = absurd (false≢true is)
results_clean (e ∷ es) [] is = absurd (false≢true is)
results_clean (e ∷ es) (c ∷ columns) is =
    let both = both_of (is_result e c) (are_results es columns) is in
    let others = results_clean es columns both.1 in
    ((name_clean (same_kind c.kind e.kind) c.name both.0, others.0), ap suc others.1)

list_fits : (names : Names) (list : List TypedExpr) (columns : List ColumnDesc) (rest : Truth) → (is_list names list && (are_results list columns && rest)) ≡ true → FewClean columns
list_fits names list columns rest is =
    let parts = both_of (is_list names list) (are_results list columns && rest) is in
    let results = both_of (are_results list columns) rest parts.1 in
    let there = both_of (not (is_empty list)) (nat_lt (length list) 1665 && list_all (is_sound names) list) parts.0 in
    let counted = both_of (nat_lt (length list) 1665) (list_all (is_sound names) list) there.1 in
    let few : length list < 1665 = ltb-true (length list) 1665 counted.0 in
    let clean = results_clean list columns results.0 in
    let same : length columns ≡ length list = clean.1 in
    (clean.0, omega (arith, few, same))

count_fits : (columns : List ColumnDesc) → is_count_result columns ≡ true → FewClean columns
count_fits [] is = absurd (false≢true is)
count_fits (c ∷ []) is = ((name_clean (same_kind c.kind Int8) c.name is, tt), omega arith)
count_fits (c ∷ d ∷ columns) is = absurd (false≢true is)

none_fit : (columns : List ColumnDesc) → is_empty columns ≡ true → FewClean columns
none_fit [] is = (tt, omega arith)
none_fit (c ∷ columns) is = absurd (false≢true is)

read_fits : (tables : List TableDef) (kinds : List ColType) (read : CheckedRead) (at : Option ℕ) (columns : List ColumnDesc) → is_read_at tables kinds at read columns ≡ true → FewClean columns
read_fits tables kinds read None columns is =
    list_fits (around [] kinds) read.list columns (is_none read.filter && is_plain read) (both_of (not read.count) (is_bare (around [] kinds) read columns) is).1
read_fits tables kinds read (Some number) columns is = from (slice_get tables number) is
  where
    of : (table : TableDef) (count : Truth) → is_read_of kinds table count read columns ≡ true → FewClean columns
    of table true is =
        let list = both_of (is_empty read.list) (is_plain read && (is_filter (around table.columns kinds) read.filter && is_count_result columns)) is in
        let plain = both_of (is_plain read) (is_filter (around table.columns kinds) read.filter && is_count_result columns) list.1 in
        count_fits columns (both_of (is_filter (around table.columns kinds) read.filter) (is_count_result columns) plain.1).1
    of table false is =
        let names = around table.columns kinds in
        list_fits names read.list columns (is_filter names read.filter && (is_order table read.order && is_limit names read.limit)) is

    from : (table : Option TableDef) → is_read_from kinds table read columns ≡ true → FewClean columns
    from None is = absurd (false≢true is)
    from (Some table) is = of table read.count is

body_fits : (tables : List TableDef) (kinds : List ColType) (b : CheckedBody) (columns : List ColumnDesc) → is_body tables kinds b columns ≡ true → FewClean columns
body_fits tables kinds (body.Read read) columns is = read_fits tables kinds read read.table columns is
body_fits tables kinds (body.Insert insert) columns is = none_fit columns (both_of (is_empty columns) (of_table (is_insert kinds) (slice_get tables insert.table) insert) is).0
body_fits tables kinds (body.Change change) columns is = none_fit columns (both_of (is_empty columns) (of_table (is_change kinds) (slice_get tables change.table) change) is).0
body_fits tables kinds (body.Remove remove) columns is = none_fit columns (both_of (is_empty columns) (of_table (is_remove kinds) (slice_get tables remove.table) remove) is).0

-- ---- the whole

joined : (columns : List ColumnDesc) → AreShort columns → AreClean columns → All IsNamed columns
joined [] short clean = All-nil IsNamed
joined (c ∷ columns) short clean = All-cons IsNamed c columns (short.0, no_zero c.name clean.0) (joined columns short.1 clean.1)

-- the columns of the result of what a text asks for
pub columns_named : (tables : List TableDef) (text : List ℕ) (s : Statement) (checked : Checked) → AreAllowed tables → IsTextOf text (s ∷ []) → AnswersCheck tables s None (Ok checked) → AreNamed checked.columns
columns_named tables text s checked allowed reads answers =
    let formed = (texts_are_formed text (s ∷ []) reads).0 in
    let short = body_sure tables s allowed formed.1 [] (Ok ((checked.body, checked.columns), answers.0)) answers.2 in
    let fits = body_fits tables checked.kinds checked.body checked.columns (is_of_tables tables text s checked allowed reads answers) in
    (fits.1, joined checked.columns short fits.0)

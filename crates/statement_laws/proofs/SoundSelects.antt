-- What a check makes of a SELECT is of the tables.
use Rattle.std.proofs.Common.{◌≡◌, ◌∙◌, ℕ, suc, ◌+◌, ◌-◌, ◌<◌, ◌≤◌, List, [], ◌∷◌, ◌++◌, length, map, refl, ap, sym, subst, arith, length-append}
use Rattle.std.specs.Prelude.{◌&&◌, ◌==◌, not, nat_lt, Bool as Truth, true, false, Option, Some, None, Result, Ok, Err, IfSome, is_some, slice_get, codes, if◌then◌else◌}
use Rattle.std.specs.List.{AllByRecursion, list_all}
use Rattle.std.proofs.Math.Dec.{eqb_refl}
use Rattle.std.proofs.lemmas.Bool.{lt-ltb, ltb-true}
use Rattle.std.proofs.lemmas.Option.{none-some, slice_get_within}
use Rattle.schema.specs.declared.catalogue.ColumnDef.{ColumnDef}
use Rattle.schema.specs.declared.catalogue.TableDef.{TableDef}
use Rattle.sql_tree.specs.declared.expr.Expr.{Expr}
use Rattle.sql_tree.specs.declared.expr.Expr.TheOpen.{Expr-F}
use Rattle.sql_tree.specs.declared.expr.Expr.TheVariants as expr
use Rattle.sql_tree.specs.declared.statement.OrderItem.{OrderItem}
use Rattle.sql_tree.specs.declared.statement.Select.{Select}
use Rattle.sql_tree.specs.declared.statement.SelectItem.{SelectItem}
use Rattle.sql_tree.specs.declared.statement.SelectList.{SelectList}
use Rattle.sql_tree.specs.declared.statement.SelectList.TheVariants.{Star, Count, Items}
use Rattle.sql_tree.specs.Trees.{AreParts, IsItem, IsLimit, IsList, IsName, IsSelect, IsTree}
use Rattle.typed_sql.specs.declared.asks.Takes.TheVariants.{Any}
use Rattle.typed_sql.specs.declared.typed.TypedExpr.{TypedExpr}
use Rattle.typed_sql.specs.Own.{Scope, over, alone, column_meant}
use Rattle.typed_sql.specs.Places.{asks_limit, asks_nothing, or_text, same_kind}
use Rattle.typed_sql.specs.Steps.{Known, Fault, fault, Gives, Then, Made, Walk, Each, Maybe, Told}
use Rattle.typed_sql.specs.Typing.{Typed}
use Rattle.catalogue.specs.declared.checked.ColumnDesc.{ColumnDesc}
use Rattle.catalogue.specs.declared.checked.OrderKey.{OrderKey}
use Rattle.catalogue.specs.Naming.{item_name, own_name}
use Rattle.catalogue.specs.Statements.{Ends, EndsOf, FilterOf, ItemOf, ListOf, OrderOf, ReadFrom, SelectOf, Uncounted, bare_read, column_desc, columns_from, has_room, is_count as counts, is_there, item_columns, order_key, read_of, result_columns, table_named}
use Rattle.checked_sql.specs.Sound.{Names, has_column, is_sound}
use Rattle.checked_sql.specs.OfCatalogue.{are_results, around, is_empty, is_filter, is_key, is_limit, is_list, is_name, is_none, is_order, is_read_from, is_read_of, is_result}
use Rattle.checked_sql.proofs.Kept.{and_true, both_true}
use Rattle.statement_laws.proofs.KnownTypes.{same_refl}
use Rattle.statement_laws.proofs.Keeping.{Meant, Keeps, All, along, each_step, gives, made, passed, refused, followed, then_told, told}
use Rattle.statement_laws.proofs.SoundLeaves.{column_there, is_true, no_zero, plain}
use Rattle.statement_laws.proofs.Limits.{LimitIs, limit_keeps}
use Rattle.statement_laws.proofs.SoundNodes.{Sound, Stood, all_true, column_sound, good, names_at}
use Rattle.statement_laws.proofs.SoundTables.{Filled, Whole, table_there}
use Rattle.statement_laws.proofs.SoundTrees.{tree_layer}
use Rattle.statement_laws.proofs.SoundWrites.{BodyIs, FilterIs, filter_keeps, some_item}
use Rattle.schema.specs.Allowed.{AreAllowed}

-- ---- names of columns

name_is : (text : List ℕ) → IsName text → is_name text ≡ true
name_is [] is = absurd (let some = is.0 in omega arith)
name_is (b ∷ text) is = no_zero (b ∷ text) (plain (b ∷ text) is.1)

own_named : (e : Expr) → IsTree e → is_name (own_name e) ≡ true
own_named (expr.Column qualifier name) tree = name_is name (tree_layer (Expr-F.Column qualifier name) (subst IsTree (sym (expr.rolls-Column qualifier name)) tree)).1
own_named e tree = refl

named_by : (name : Option (List ℕ)) (e : Expr) → IfSome name IsName → IsTree e → is_name (item_name name e) ≡ true
named_by None e is tree = own_named e tree
named_by (Some name) e is tree = name_is name is

items_results : (items : List SelectItem) (es : List TypedExpr) → AllByRecursion IsItem items → length es ≡ length items → are_results es (item_columns items es) ≡ true
items_results [] [] trees same = refl
items_results [] (e ∷ es) trees same = absurd (omega arith)
items_results (item ∷ items) [] trees same = absurd (omega arith)
items_results (item ∷ items) (e ∷ es) trees same =
    both_true (is_result e (column_desc (item_name item.name item.expr) e.kind)) (are_results es (item_columns items es))
    (both_true (same_kind e.kind e.kind) (is_name (item_name item.name item.expr)) (same_refl e.kind) (named_by item.name item.expr (trees.0).1 (trees.0).0))
    (items_results items es trees.1 (omega arith))

-- ---- items

room_by : (b : Truth) (before : ℕ) (r : Unit {0}) → nat_lt before 1664 ≡ b → (if b then Ok tt else Err (fault (codes "54011") [])) ≡ Ok r → before < 1664
room_by true before r is given = ltb-true before 1664 is
room_by false before r is given = absurd (none-some r (ap or_none given))
  where
    or_none : Result (Unit {0}) Fault → Option (Unit {0})
    or_none (Ok x) = Some x
    or_none (Err e) = None

module _ (scope : Scope) where
  abbrev ItemIs : ℕ → Meant TypedExpr
  ItemIs before final e = Sound scope final e × (before < 1664)

  item_keeps : (before : ℕ) (item : SelectItem) → IsItem item → Keeps (ItemIs before) (ItemOf scope before item)
  item_keeps before item tree =
      followed (λ final r. before < 1664) (ItemIs before) (Told (has_room before)) (λ room. Typed scope item.expr asks_nothing)
      (told (λ final r. before < 1664) (has_room before) (λ r is final. room_by (nat_lt before 1664) before r refl is))
      (λ room. along (Stood scope Any) (λ final e. before < 1664 → ItemIs before final e) (Typed scope item.expr asks_nothing) (good scope item.expr tree.0 asks_nothing)
      (λ e final is below. (is, below)))

  abbrev ItemsAre : ℕ → List SelectItem → Meant (List TypedExpr)
  ItemsAre before items final es = All (Sound scope final) es × (length es ≡ length items) × (before ≤ 1664 → before + length es ≤ 1664)

  items_keep : (before : ℕ) (items : List SelectItem) → AllByRecursion IsItem items → Keeps (ItemsAre before items) (Walk (ItemOf scope) (λ before e. suc before) before items)
  items_keep before [] trees = gives (ItemsAre before []) [] (λ final. (tt, refl, λ below. omega arith))
  items_keep before (item ∷ items) trees =
      followed (ItemIs before) (ItemsAre before (item ∷ items)) (ItemOf scope before item) (λ e. Made (λ es. e ∷ es) (Walk (ItemOf scope) (λ before e. suc before) (suc before) items))
      (item_keeps before item trees.0)
      (λ e. made (ItemsAre (suc before) items) (λ final es. ItemIs before final e → ItemsAre before (item ∷ items) final es) (λ es. e ∷ es)
      (Walk (ItemOf scope) (λ before e. suc before) (suc before) items) (items_keep (suc before) items trees.1)
      (λ es final all is. ((is.0, all.0), ap suc all.1, λ below. let first = is.1 in let rest = all.2 (omega arith) in omega arith)))

  -- 1 to 1664 sound items, and their columns
  abbrev ListIs : (List TypedExpr → List ColumnDesc) → Meant (List TypedExpr)
  ListIs columns final es = (is_list (names_at scope final) es ≡ true) × (are_results es (columns es) ≡ true)

  list_true : (names : Names) (es : List TypedExpr) → 1 ≤ length es → length es ≤ 1664 → All (λ e. is_sound names e ≡ true) es → is_list names es ≡ true
  list_true names es one few all =
      both_true (not (is_empty es)) (nat_lt (length es) 1665 && list_all (is_sound names) es) (some_item es one)
      (both_true (nat_lt (length es) 1665) (list_all (is_sound names) es) (lt-ltb (length es) 1665 (omega arith)) (all_true names (is_sound names) es all))

  items_list_keeps : (items : List SelectItem) → AreParts IsItem 1 items → Keeps (ListIs (item_columns items)) (Walk (ItemOf scope) (λ before e. suc before) 0 items)
  items_list_keeps items trees =
      along (ItemsAre 0 items) (ListIs (item_columns items)) (Walk (ItemOf scope) (λ before e. suc before) 0 items) (items_keep 0 items trees.1)
      (λ es final all.
      let same = all.1 in
      let few = all.2 (omega arith) in
      let one = trees.0 in
      (list_true (names_at scope final) es (omega arith) (omega arith) all.0, items_results items es trees.1 same))

-- ---- all columns

star_sound : (names : Names) (columns : List ColumnDef) (k : ℕ) → ((i : ℕ) (c : ColumnDef) → slice_get columns i ≡ Some c → slice_get names.columns (k + i) ≡ Some c)
    → All (λ e. is_sound names e ≡ true) (columns_from k columns)
star_sound names [] k at = tt
star_sound names (column ∷ columns) k at =
    let same : k + 0 ≡ k = omega arith in
    let there : slice_get names.columns k ≡ Some column = subst (λ (m : ℕ). slice_get names.columns m ≡ Some column) same (at 0 column refl) in (
      column_sound names (k, column) (ap (has_column column.kind) there ∙ same_refl column.kind),
      star_sound names columns (suc k) (λ i c is.
          let next : k + suc i ≡ suc k + i = omega arith in
          subst (λ (m : ℕ). slice_get names.columns m ≡ Some c) next (at (suc i) c is)),
    )

star_long : (columns : List ColumnDef) (k : ℕ) → length (columns_from k columns) ≡ length columns
star_long [] k = refl
star_long (column ∷ columns) k = ap suc (star_long columns (suc k))

star_results : (columns : List ColumnDef) (k : ℕ) → All Filled columns → are_results (columns_from k columns) (map (λ c. column_desc c.name c.kind) columns) ≡ true
star_results [] k all = refl
star_results (column ∷ columns) k all =
    both_true (same_kind column.kind column.kind && is_name column.name) (are_results (columns_from (suc k) columns) (map (λ c. column_desc c.name c.kind) columns))
    (both_true (same_kind column.kind column.kind) (is_name column.name) (same_refl column.kind) (all.0).named) (star_results columns (suc k) all.1)

-- ---- ORDER BY, LIMIT and FOR UPDATE

key_at_last : (xs : List OrderKey) (k : OrderKey) → slice_get (xs ++ k ∷ []) (length xs) ≡ Some k
key_at_last [] k = refl
key_at_last (x ∷ xs) k = key_at_last xs k

all_then : (test : OrderKey → Truth) (xs : List OrderKey) (k : OrderKey) → list_all test xs ≡ true → test k ≡ true → list_all test (xs ++ k ∷ []) ≡ true
all_then test [] k all is = both_true (test k) true is refl
all_then test (x ∷ xs) k all is =
    let both = and_true (test x) (list_all test xs) all in
    both_true (test x) (list_all test (xs ++ k ∷ [])) both.0 (all_then test xs k both.1 is)

module _ (parameters : Truth) (x : ℕ × TableDef) (whole : Whole x.1) where
  abbrev scope_over : Scope
  scope_over = over parameters x.1

  abbrev KeyIs : Meant OrderKey
  KeyIs final o = nat_lt o.column (length (x.1).columns) ≡ true

  order_keeps : (order : List OrderItem) → Keeps (λ final os. All (KeyIs final) os) (Each (OrderOf scope_over) order)
  order_keeps order = each_step KeyIs (OrderOf scope_over) order (every order)
    where
      every : (order : List OrderItem) → All (λ item. Keeps KeyIs (OrderOf scope_over item)) order
      every [] = tt
      every (item ∷ order) = (
        made (λ final c. slice_get (x.1).columns c.0 ≡ Some c.1) KeyIs (order_key item.falling) (Told (column_meant scope_over item.qualifier item.column))
            (told (λ final c. slice_get (x.1).columns c.0 ≡ Some c.1) (column_meant scope_over item.qualifier item.column) (λ c is final. column_there scope_over item.qualifier item.column c is))
            (λ c final there. lt-ltb c.0 (length (x.1).columns) (slice_get_within (x.1).columns c.0 c.1 there)),
        every order,
      )

  order_true : (keys : List OrderKey) (final : Known) → All (KeyIs final) keys → is_order x.1 (keys ++ record { column = (x.1).key; falling = false } ∷ []) ≡ true
  order_true keys final all =
      let key : OrderKey = record { column = (x.1).key; falling = false } in
      let orders = keys ++ key ∷ [] in
      let long : length orders ≡ length keys + 1 = length-append keys (key ∷ []) in
      let last : length orders - 1 ≡ length keys = omega arith in
      both_true (list_all (λ o. nat_lt o.column (length (x.1).columns)) orders) (is_key x.1 (slice_get orders (length orders - 1)))
      (all_then (λ o. nat_lt o.column (length (x.1).columns)) keys key (all_keys keys all) whole.key)
      (ap (is_key x.1) (ap (slice_get orders) last ∙ key_at_last keys key) ∙ both_true ((x.1).key == (x.1).key) true (is_true ((x.1).key == (x.1).key) (eqb_refl (x.1).key)) refl)
    where
      all_keys : (keys : List OrderKey) → All (KeyIs final) keys → list_all (λ o. nat_lt o.column (length (x.1).columns)) keys ≡ true
      all_keys [] all = refl
      all_keys (k ∷ keys) all = both_true (nat_lt k.column (length (x.1).columns)) (list_all (λ o. nat_lt o.column (length (x.1).columns)) keys) all.0 (all_keys keys all.1)

  -- what stands behind a count, and behind another list
  abbrev EndsAre : Truth → Truth → Meant Ends
  EndsAre true for_update final ends = (is_empty ends.0 ≡ true) × (is_none ends.1 ≡ true) × (not for_update ≡ true)
  EndsAre false for_update final ends = (is_order x.1 ends.0 ≡ true) × (is_limit (names_at scope_over final) ends.1 ≡ true)

  counted_order : (order : List OrderItem) → Keeps (λ final os. is_empty os ≡ true) (Uncounted true (is_there order) (Each (OrderOf scope_over) order))
  counted_order [] = passed (λ final os. is_empty os ≡ true) (Gives []) (gives (λ final os. is_empty os ≡ true) [] (λ final. refl))
  counted_order (o ∷ order) = refused (λ final os. is_empty os ≡ true) (fault (codes "0A000") (codes "count")) (λ free. Each (OrderOf scope_over) (o ∷ order))

  counted_limit : (limit : Option Expr) → Keeps (λ final l. is_none l ≡ true) (Uncounted true (is_some limit) (Maybe (λ e. Typed scope_over e asks_limit) limit))
  counted_limit None = passed (λ final l. is_none l ≡ true) (Gives None) (gives (λ final l. is_none l ≡ true) None (λ final. refl))
  counted_limit (Some e) = refused (λ final l. is_none l ≡ true) (fault (codes "0A000") (codes "count")) (λ free. Maybe (λ e. Typed scope_over e asks_limit) (Some e))

  counted_update : (for_update : Truth) (ends : Ends) → Keeps (λ final e. (e ≡ ends) × (not for_update ≡ true)) (Uncounted true for_update (Gives ends))
  counted_update false ends = passed (λ final e. (e ≡ ends) × (true ≡ true)) (Gives ends) (gives (λ final e. (e ≡ ends) × (true ≡ true)) ends (λ final. (refl, refl)))
  counted_update true ends = refused (λ final e. (e ≡ ends) × (false ≡ true)) (fault (codes "0A000") (codes "count")) (λ free. Gives ends)

  ends_keep : (count : Truth) (select : Select) → IfSome select.limit IsLimit → Keeps (EndsAre count select.for_update) (EndsOf count scope_over select x.1)
  ends_keep true select tree =
      followed (λ final os. is_empty os ≡ true) (EndsAre true select.for_update) (Uncounted true (is_there select.order) (Each (OrderOf scope_over) select.order))
      (λ order. Then (Uncounted true (is_some select.limit) (Maybe (λ e. Typed scope_over e asks_limit) select.limit)) (λ limit. Uncounted true select.for_update (Gives (order, limit))))
      (counted_order select.order)
      (λ order. followed (λ final l. is_none l ≡ true) (λ final ends. is_empty order ≡ true → EndsAre true select.for_update final ends)
      (Uncounted true (is_some select.limit) (Maybe (λ e. Typed scope_over e asks_limit) select.limit)) (λ limit. Uncounted true select.for_update (Gives (order, limit))) (counted_limit select.limit)
      (λ limit. along (λ final e. (e ≡ (order, limit)) × (not select.for_update ≡ true)) (λ final ends. is_none limit ≡ true → is_empty order ≡ true → EndsAre true select.for_update final ends)
      (Uncounted true select.for_update (Gives (order, limit))) (counted_update select.for_update (order, limit))
      (λ ends final is none empty. (ap (λ (e : Ends). is_empty e.0) is.0 ∙ empty, ap (λ (e : Ends). is_none e.1) is.0 ∙ none, is.1))))
  ends_keep false select tree =
      followed (λ final os. All (KeyIs final) os) (EndsAre false select.for_update) (Uncounted false (is_there select.order) (Each (OrderOf scope_over) select.order))
      (λ order. Then (Uncounted false (is_some select.limit) (Maybe (λ e. Typed scope_over e asks_limit) select.limit))
      (λ limit. Uncounted false select.for_update (Gives (order ++ record { column = (x.1).key; falling = false } ∷ [], limit))))
      (passed (λ final os. All (KeyIs final) os) (Each (OrderOf scope_over) select.order) (order_keeps select.order))
      (λ order. followed (LimitIs scope_over) (λ final ends. All (KeyIs final) order → EndsAre false select.for_update final ends)
      (Uncounted false (is_some select.limit) (Maybe (λ e. Typed scope_over e asks_limit) select.limit))
      (λ limit. Uncounted false select.for_update (Gives (order ++ record { column = (x.1).key; falling = false } ∷ [], limit)))
      (passed (LimitIs scope_over) (Maybe (λ e. Typed scope_over e asks_limit) select.limit) (limit_keeps scope_over select.limit tree))
      (λ limit.
      let ends : Ends = (order ++ record { column = (x.1).key; falling = false } ∷ [], limit) in
      let Is : Meant Ends = λ final ends. LimitIs scope_over final limit → All (KeyIs final) order → EndsAre false select.for_update final ends in
      passed Is (Gives ends) (gives Is ends (λ final limited keys. (order_true order final keys, limited)))))

  -- ---- a SELECT from the table

  abbrev ListFor : SelectList → Meant (List TypedExpr)
  ListFor Star final es = ListIs scope_over (result_columns (x.1).columns Star) final es
  ListFor Count final es = is_empty es ≡ true
  ListFor (Items items) final es = ListIs scope_over (result_columns (x.1).columns (Items items)) final es

  list_keeps : (list : SelectList) → IsList list → Keeps (ListFor list) (ListOf scope_over (x.1).columns list)
  list_keeps Star tree =
      gives (ListFor Star) (columns_from 0 (x.1).columns) (λ final.
      let long = star_long (x.1).columns 0 in
      let few = whole.few in
      let some : (x.1).key < length (x.1).columns = ltb-true (x.1).key (length (x.1).columns) whole.key in
      let names = names_at scope_over final in (
        list_true scope_over names (columns_from 0 (x.1).columns) (omega arith) (omega arith)
            (star_sound names (x.1).columns 0 (λ i c is. let same : 0 + i ≡ i = omega arith in subst (λ (m : ℕ). slice_get (x.1).columns m ≡ Some c) (sym same) is)),
        star_results (x.1).columns 0 whole.columns,
      ))
  list_keeps Count tree = gives (ListFor Count) [] (λ final. refl)
  list_keeps (Items items) tree = items_list_keeps scope_over items tree

  read_true : (tables : List TableDef) (select : Select) (list : SelectList) (es : List TypedExpr) (filter : Option TypedExpr) (ends : Ends) (final : Known)
      → ListFor list final es → FilterIs scope_over final filter → EndsAre (counts list) select.for_update final ends
      → is_read_of (map or_text final) x.1 (counts list)
      (record { table = Some x.0; count = counts list; list = es; filter = filter; order = ends.0; limit = ends.1; for_update = select.for_update })
      (result_columns (x.1).columns list es) ≡ true
  read_true tables select Star es filter ends final listed filtered ended =
      let names = names_at scope_over final in
      both_true (is_list names es) (are_results es (result_columns (x.1).columns Star es) && (is_filter names filter && (is_order x.1 ends.0 && is_limit names ends.1))) listed.0
      (both_true (are_results es (result_columns (x.1).columns Star es)) (is_filter names filter && (is_order x.1 ends.0 && is_limit names ends.1)) listed.1
      (both_true (is_filter names filter) (is_order x.1 ends.0 && is_limit names ends.1) filtered (both_true (is_order x.1 ends.0) (is_limit names ends.1) ended.0 ended.1)))
  read_true tables select Count es filter ends final listed filtered ended =
      let names = names_at scope_over final in
      both_true (is_empty es) ((is_empty ends.0 && (is_none ends.1 && not select.for_update)) && (is_filter names filter && true)) listed
      (both_true (is_empty ends.0 && (is_none ends.1 && not select.for_update)) (is_filter names filter && true)
      (both_true (is_empty ends.0) (is_none ends.1 && not select.for_update) ended.0 (both_true (is_none ends.1) (not select.for_update) ended.1 ended.2))
      (both_true (is_filter names filter) true filtered refl))
  read_true tables select (Items items) es filter ends final listed filtered ended =
      let names = names_at scope_over final in
      both_true (is_list names es) (are_results es (item_columns items es) && (is_filter names filter && (is_order x.1 ends.0 && is_limit names ends.1))) listed.0
      (both_true (are_results es (item_columns items es)) (is_filter names filter && (is_order x.1 ends.0 && is_limit names ends.1)) listed.1
      (both_true (is_filter names filter) (is_order x.1 ends.0 && is_limit names ends.1) filtered (both_true (is_order x.1 ends.0) (is_limit names ends.1) ended.0 ended.1)))

  read_keeps : (tables : List TableDef) (select : Select) → slice_get tables x.0 ≡ Some x.1 → IsSelect select → Keeps (BodyIs tables) (ReadFrom parameters select x)
  read_keeps tables select there tree =
      followed (ListFor select.list) (BodyIs tables) (ListOf scope_over (x.1).columns select.list)
      (λ list. Then (FilterOf scope_over select.filter) (λ filter. Made (read_of x select list filter) (EndsOf (counts select.list) scope_over select x.1)))
      (list_keeps select.list tree.given)
      (λ list. followed (FilterIs scope_over) (λ final b. ListFor select.list final list → BodyIs tables final b) (FilterOf scope_over select.filter)
      (λ filter. Made (read_of x select list filter) (EndsOf (counts select.list) scope_over select x.1)) (filter_keeps scope_over select.filter tree.filter)
      (λ filter. made (EndsAre (counts select.list) select.for_update) (λ final b. FilterIs scope_over final filter → ListFor select.list final list → BodyIs tables final b)
      (read_of x select list filter) (EndsOf (counts select.list) scope_over select x.1) (ends_keep (counts select.list) select tree.limit)
      (λ ends final ended filtered listed.
      ap (λ (o : Option TableDef). is_read_from (map or_text final) o
      (record { table = Some x.0; count = counts select.list; list = list; filter = filter; order = ends.0; limit = ends.1; for_update = select.for_update })
      (result_columns (x.1).columns select.list list)) there
      ∙ read_true tables select select.list list filter ends final listed filtered ended)))

-- ---- a SELECT without a table

bare_keeps : (tables : List TableDef) (parameters : Truth) (select : Select) (items : List SelectItem) → select.list ≡ Items items → AreParts IsItem 1 items
    → Keeps (BodyIs tables) (Made (bare_read select) (ListOf (alone parameters) [] select.list))
bare_keeps tables parameters select items is trees =
    made (λ final es. ListIs (alone parameters) (result_columns [] select.list) final es) (BodyIs tables) (bare_read select) (ListOf (alone parameters) [] select.list)
    (subst (λ (l : SelectList). Keeps (λ final es. ListIs (alone parameters) (result_columns [] l) final es) (ListOf (alone parameters) [] l)) (sym is) (items_list_keeps (alone parameters) items trees))
    (λ es final listed.
    both_true (is_list (around [] (map or_text final)) es) (are_results es (result_columns [] select.list es) && true) listed.0
    (both_true (are_results es (result_columns [] select.list es)) true listed.1 refl))

select_by : (tables : List TableDef) (parameters : Truth) (select : Select) (name : Option (List ℕ)) → select.table ≡ name → AreAllowed tables → IsSelect select
    → Keeps (BodyIs tables) (SelectOf tables parameters select name)
select_by tables parameters select None is allowed tree =
    let without = tree.alone is in
    let given = without.items in
    bare_keeps tables parameters select given.0 given.1 (subst IsList given.1 tree.given)
select_by tables parameters select (Some name) is allowed tree =
    then_told (BodyIs tables) (table_named tables name) (ReadFrom parameters select)
    (λ x found.
    let there = table_there tables name x allowed found in
    read_keeps parameters x there.1 tables select there.0 tree)

pub select_keeps : (tables : List TableDef) (parameters : Truth) (select : Select) → AreAllowed tables → IsSelect select
    → Keeps (BodyIs tables) (SelectOf tables parameters select select.table)
select_keeps tables parameters select allowed tree = select_by tables parameters select select.table refl allowed tree

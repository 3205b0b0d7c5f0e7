-- What a check makes of a spelled SELECT has the effect of the SELECT that was spelled.
use Rattle.std.proofs.Common.{◌≡◌, ◌∙◌, ℕ, zero, suc, ◌+◌, ◌-◌, ◌<◌, ◌≤◌, List, [], ◌∷◌, length, map, refl, ap, sym, subst, arith}
use Rattle.std.specs.Prelude.{◌&&◌, ◌==◌, not, nat_lt, is_some, Bool as Truth, true, false, Option, Some, None, Ok, Err, option_map, slice_get, codes, if◌then◌else◌}
use Rattle.std.specs.List.{list_all}
use Rattle.std.proofs.lemmas.Bool.{eqb-true, lt-ltb, ltb-true}
use Rattle.pg_values.specs.declared.col_type.ColType.{ColType}
use Rattle.pg_values.specs.declared.col_type.ColType.TheVariants as kind
use Rattle.schema.specs.declared.catalogue.ColumnDef.{ColumnDef}
use Rattle.schema.specs.declared.catalogue.TableDef.{TableDef}
use Rattle.schema.specs.Allowed.{AreAllowed, AreColumns}
use Rattle.sql_tree.specs.declared.statement.Select.{Select}
use Rattle.sql_tree.specs.declared.statement.SelectItem.{SelectItem}
use Rattle.sql_tree.specs.declared.statement.SelectList.TheVariants as list
use Rattle.typed_sql.specs.declared.asks.Takes.TheVariants.{Like, Whole}
use Rattle.typed_sql.specs.declared.typed.TypedExpr.{TypedExpr}
use Rattle.typed_sql.specs.Places.{asks_bool, asks_limit, asks_nothing, is_whole, takes as takes_kind}
use Rattle.typed_sql.specs.Own.{Scope, alone, column_meant, over}
use Rattle.typed_sql.specs.Steps.{Known, Each, Gives, Made, Maybe, Step, Then, Told, Walk, fault}
use Rattle.typed_sql.specs.Typing.{Typed}
use Rattle.catalogue.specs.declared.checked.CheckedBody.TheVariants as body
use Rattle.catalogue.specs.declared.checked.CheckedRead.{CheckedRead}
use Rattle.catalogue.specs.declared.checked.ColumnDesc.{ColumnDesc}
use Rattle.catalogue.specs.declared.checked.OrderKey.{OrderKey}
use Rattle.catalogue.specs.Statements.{Body, Ends, EndsOf, FilterOf, ItemOf, ListOf, OrderOf, ReadFrom, ReadIn, SelectOf, Uncounted, bare_read, has_room, is_count as counts, is_there, order_key, read_of, table_named, uncounted, with_key}
use Rattle.checked_sql.specs.Sound.{Names, is_sound, stands}
use Rattle.checked_sql.specs.OfCatalogue.{are_results, around, is_bare, is_count_result, is_empty, is_filter, is_key, is_limit, is_limit_form, is_list, is_none, is_order, is_plain, is_read_at, is_read_from, is_read_of, is_result}
use Rattle.sql_eval.specs.Effects.{Effect, Reads}
use Rattle.sql_eval.specs.declared.effect.ReadEffect.{ReadEffect}
use Rattle.sql_eval.specs.Walks.{Coded, made as made_of}
use Rattle.checked_print.specs.Spelled.{column_name, name_at, spelled, spelled_whole}
use Rattle.checked_print.specs.Statements.{columns_of, name_of, spelled_item, spelled_items, spelled_key, spelled_list, spelled_read, spelled_select}
use Rattle.statement_laws.specs.Again.{SameEffect}
use Rattle.checked_print.specs.Ranges.{are_held, is_held_expr, is_held_list, is_held_option, is_held_read}
use Rattle.statement_laws.proofs.Claims.{Again, SameValue, free_place, like_place}
use Rattle.statement_laws.proofs.Effects.{EndsWith, SameFilter, SameKey, SameLimit, SameOrder, SameRead, key_again, read_same, same_keys}
use Rattle.statement_laws.proofs.Exprs.{Means, Round, known_of, round}
use Rattle.statement_laws.proofs.Literals.{NearValue}
use Rattle.statement_laws.proofs.Numbers.{both_of}
use Rattle.statement_laws.proofs.Sure.{All, Both, Pairs, Sure, along, each, followed, gives, made, maybe, told, told_then, walk}
use Rattle.statement_laws.proofs.Tables.{MayHave, alone_means, column_qualified, columns_are, named, over_means}

-- ---- what is empty

pub empty_is : {A : Type 0} (xs : List A) → is_empty xs ≡ true → xs ≡ []
empty_is [] is = refl
empty_is (x ∷ xs) is = absurd (let f : false ≡ true = is in cc)

pub none_is : {A : Type 0} (o : Option A) → is_none o ≡ true → o ≡ None
none_is None is = refl
none_is (Some x) is = absurd (let f : false ≡ true = is in cc)

pub not_is : (b : Truth) → not b ≡ true → b ≡ false
not_is true is = absurd (let f : false ≡ true = is in cc)
not_is false is = refl

-- ---- items

abbrev pairs_of : {A B : Type 0} → List A → List B → List (A × B)
pairs_of [] ys = []
pairs_of (x ∷ xs) [] = []
pairs_of (x ∷ xs) (y ∷ ys) = (x, y) ∷ pairs_of xs ys

module _ (scope : Scope) (columns : List ColumnDef) (kinds : List ColType) (means : Means scope columns kinds) where
  abbrev known : Known
  known = known_of kinds

  abbrev names : Names
  names = around columns kinds

  abbrev item : TypedExpr × ColumnDesc → SelectItem
  item p = spelled_item columns p.0 p.1

  items_are : (es : List TypedExpr) (descs : List ColumnDesc) → spelled_items columns es descs ≡ map item (pairs_of es descs)
  items_are [] descs = refl
  items_are (e ∷ es) [] = refl
  items_are (e ∷ es) (d ∷ descs) = ap (λ (items : List SelectItem). spelled_item columns e d ∷ items) (items_are es descs)

  -- as many as there is room for
  abbrev Fit : ℕ → List (TypedExpr × ColumnDesc) → Type 0
  Fit before ps = (before + length ps ≤ 1664) × All (λ p. Round scope columns kinds p.0) ps

  one_item : (before : ℕ) (p : TypedExpr × ColumnDesc) (ps : List (TypedExpr × ColumnDesc)) → Fit before (p ∷ ps)
      → Sure (λ y. SameValue p.0 y × Fit (suc before) ps) known (ItemOf scope before (item p))
  one_item before p ps fit =
      let room : before < 1664 = let few = fit.0 in omega (arith, few) in
      let left : suc before + length ps ≤ 1664 = let few = fit.0 in omega (arith, few) in
      told_then (λ y. SameValue p.0 y × Fit (suc before) ps) known (has_room before) tt (λ r. Typed scope (item p).expr asks_nothing)
      (ap (λ (b : Truth). if b then Ok tt else Err (fault (codes "54011") [])) (lt-ltb before 1664 room))
      (along (SameValue p.0) (λ y. SameValue p.0 y × Fit (suc before) ps) known (Typed scope (item p).expr asks_nothing)
      (free_place scope known p.0 (spelled columns p.0) (fit.1.0).0) (λ y same. (same, (left, fit.1.1))))

  -- each of the first list beside one of the second
  unpaired : (es : List TypedExpr) (descs : List ColumnDesc) (ys : List TypedExpr) → are_results es descs ≡ true → Pairs (λ p y. SameValue p.0 y) (pairs_of es descs) ys → Pairs SameValue es ys
  unpaired [] descs [] is same = tt
  unpaired [] descs (y ∷ ys) is same = absurd same
  unpaired (e ∷ es) [] ys is same = absurd (let f : false ≡ true = is in cc)
  unpaired (e ∷ es) (d ∷ descs) [] is same = absurd same
  unpaired (e ∷ es) (d ∷ descs) (y ∷ ys) is same = (same.0, unpaired es descs ys (both_of (is_result e d) (are_results es descs) is).1 same.1)

  paired_all : (es : List TypedExpr) (descs : List ColumnDesc) → list_all (is_sound names) es ≡ true → are_held es descs ≡ true
      → All (λ p. Round scope columns kinds p.0) (pairs_of es descs)
  paired_all [] descs sound well = tt
  paired_all (e ∷ es) [] sound well = tt
  paired_all (e ∷ es) (d ∷ descs) sound well =
      let is = both_of (is_sound names e) (list_all (is_sound names) es) sound in
      let all = both_of (is_held_expr e) (are_held es descs) well in
      (round scope columns kinds means e all.0 is.0, paired_all es descs is.1 all.1)

  paired_few : (es : List TypedExpr) (descs : List ColumnDesc) → length (pairs_of es descs) ≤ length es
  paired_few [] descs = omega arith
  paired_few (e ∷ es) [] = omega arith
  paired_few (e ∷ es) (d ∷ descs) = let rest = paired_few es descs in omega (arith, rest)

  pub items_sure : (table : List ColumnDef) (es : List TypedExpr) (descs : List ColumnDesc) → is_list names es ≡ true → are_results es descs ≡ true → are_held es descs ≡ true
      → Sure (λ ys. Pairs SameValue es ys) known (ListOf scope table (list.Items (spelled_items columns es descs)))
  items_sure table es descs is results well =
      let some = both_of (not (is_empty es)) (nat_lt (length es) 1665 && list_all (is_sound names) es) is in
      let few = both_of (nat_lt (length es) 1665) (list_all (is_sound names) es) some.1 in
      let below : length es < 1665 = ltb-true (length es) 1665 few.0 in
      let room : 0 + length (pairs_of es descs) ≤ 1664 = let less = paired_few es descs in omega (arith, below, less) in
      subst (λ (items : List SelectItem). Sure (λ ys. Pairs SameValue es ys) known (Walk (ItemOf scope) (λ before e. suc before) 0 items)) (sym (items_are es descs))
      (along (λ ys. Pairs (λ p y. SameValue p.0 y) (pairs_of es descs) ys) (λ ys. Pairs SameValue es ys) known
      (Walk (ItemOf scope) (λ before e. suc before) 0 (map item (pairs_of es descs)))
      (walk Fit (λ p y. SameValue p.0 y) item (ItemOf scope) (λ before e. suc before) known one_item (pairs_of es descs) 0 (room, paired_all es descs few.1 well))
      (λ ys same. unpaired es descs ys results same))

  -- ---- filters and limits

  filter_from : (f : Option TypedExpr) (g : Option TypedExpr) → Both SameValue (spelled columns) (λ e. Typed scope e asks_bool) known f g → SameFilter f g
  filter_from None None same = tt
  filter_from None (Some y) same = absurd same
  filter_from (Some e) None same = absurd same
  filter_from (Some e) (Some y) same = same

  pub filter_sure : (f : Option TypedExpr) → is_filter names f ≡ true → is_held_option f ≡ true → Sure (SameFilter f) known (FilterOf scope (option_map (spelled columns) f))
  filter_sure None is well =
      along (Both SameValue (spelled columns) (λ e. Typed scope e asks_bool) known None) (SameFilter None) known (FilterOf scope None)
      (maybe SameValue (spelled columns) (λ e. Typed scope e asks_bool) known None tt) (filter_from None)
  filter_sure (Some e) is well =
      let both = both_of (takes_kind (Like kind.Bool) e.kind) (is_sound names e) is in
      along (Both SameValue (spelled columns) (λ x. Typed scope x asks_bool) known (Some e)) (SameFilter (Some e)) known (FilterOf scope (Some (spelled columns e)))
      (maybe SameValue (spelled columns) (λ x. Typed scope x asks_bool) known (Some e)
      (along (Again (λ j. takes_kind (Like kind.Bool) j ≡ true) e) (SameValue e) known (Typed scope (spelled columns e) asks_bool)
      (like_place scope known kind.Bool e (spelled columns e) (round scope columns kinds means e well both.1).0 both.0) (λ y same. same.1)))
      (filter_from (Some e))

  limit_from : (f : Option TypedExpr) (g : Option TypedExpr) → Both NearValue (spelled_whole columns) (λ e. Typed scope e asks_limit) known f g → SameLimit f g
  limit_from None None same = tt
  limit_from None (Some y) same = absurd same
  limit_from (Some e) None same = absurd same
  limit_from (Some e) (Some y) same = same

  pub limit_sure : (f : Option TypedExpr) → is_limit names f ≡ true → is_held_option f ≡ true
      → Sure (SameLimit f) known (Maybe (λ e. Typed scope e asks_limit) (option_map (spelled_whole columns) f))
  limit_sure None is well =
      along (Both NearValue (spelled_whole columns) (λ e. Typed scope e asks_limit) known None) (SameLimit None) known (Maybe (λ e. Typed scope e asks_limit) None)
      (maybe NearValue (spelled_whole columns) (λ e. Typed scope e asks_limit) known None tt) (limit_from None)
  limit_sure (Some e) is well =
      let form = both_of (is_limit_form e.form) (stands names Whole e) is in
      let both = both_of (is_whole e.kind) (is_sound names e) form.1 in
      along (Both NearValue (spelled_whole columns) (λ x. Typed scope x asks_limit) known (Some e)) (SameLimit (Some e)) known
      (Maybe (λ x. Typed scope x asks_limit) (Some (spelled_whole columns e)))
      (maybe NearValue (spelled_whole columns) (λ x. Typed scope x asks_limit) known (Some e) ((round scope columns kinds means e well both.1).2.1 both.0))
      (limit_from (Some e))

-- ---- orders

back : (m : ℕ) → suc m - 1 ≡ m
back m = omega arith

pub within : {A : Type 0} (xs : List A) (n : ℕ) → n < length xs → (x : A) × (slice_get xs n ≡ Some x)
within [] n below = absurd (omega arith)
within (x ∷ xs) zero below = (x, refl)
within (x ∷ xs) (suc n) below = within xs n (omega arith)

module _ (parameters : Truth) (kinds : List ColType) (t : TableDef) (are : AreColumns t.key t.serial [] t.columns) where
  key_sure : (key : OrderKey) → nat_lt key.column (length t.columns) ≡ true → Sure (SameKey key) (known_of kinds) (OrderOf (over parameters t) (spelled_key t.name t.columns key))
  key_sure key is =
      let found = within t.columns key.column (ltb-true key.column (length t.columns) is) in
      let name : name_at t.columns key.column ≡ found.0.name = ap column_name found.1 in
      let meant : column_meant (over parameters t) (Some t.name) (name_at t.columns key.column) ≡ Ok (key.column, found.0) =
      ap (column_meant (over parameters t) (Some t.name)) name ∙ column_qualified parameters t are key.column found.0 found.1 in
      made (λ (x : ℕ × ColumnDef). x ≡ (key.column, found.0)) (SameKey key) (known_of kinds)
      (Told (column_meant (over parameters t) (Some t.name) (name_at t.columns key.column))) (order_key key.falling)
      (told (λ (x : ℕ × ColumnDef). x ≡ (key.column, found.0)) (known_of kinds) (column_meant (over parameters t) (Some t.name) (name_at t.columns key.column)) (key.column, found.0) meant refl)
      (λ x same. (ap (λ (z : ℕ × ColumnDef). z.0) same, refl))

  keys_all : (keys : List OrderKey) → list_all (λ o. nat_lt o.column (length t.columns)) keys ≡ true
      → All (λ key. Sure (SameKey key) (known_of kinds) (OrderOf (over parameters t) (spelled_key t.name t.columns key))) keys
  keys_all [] is = tt
  keys_all (key ∷ keys) is =
      let both = both_of (nat_lt key.column (length t.columns)) (list_all (λ o. nat_lt o.column (length t.columns)) keys) is in
      (key_sure key both.0, keys_all keys both.1)

  pub order_sure : (keys : List OrderKey) → list_all (λ o. nat_lt o.column (length t.columns)) keys ≡ true
      → Sure (λ ks. Pairs SameKey keys ks) (known_of kinds) (Each (OrderOf (over parameters t)) (map (spelled_key t.name t.columns) keys))
  order_sure keys is = each SameKey (spelled_key t.name t.columns) (OrderOf (over parameters t)) (known_of kinds) keys (keys_all keys is)

  -- an order ends with the key, rising
  ends_by : (a : OrderKey) → is_key t (Some a) ≡ true → SameKey a (record { column = t.key; falling = false })
  ends_by a is =
      let both = both_of (a.column == t.key) (not a.falling) is in
      (sym (eqb-true a.column t.key both.0), sym (not_is a.falling both.1))

  pub ends_with : (keys : List OrderKey) → is_key t (slice_get keys (length keys - 1)) ≡ true → EndsWith (record { column = t.key; falling = false }) keys
  ends_with [] is = let f : false ≡ true = is in cc
  ends_with (a ∷ []) is = ends_by a (sym (ap (λ (m : ℕ). is_key t (slice_get (a ∷ []) m)) (back 0)) ∙ is)
  ends_with (a ∷ b ∷ keys) is =
      let n = length keys in
      ends_with (b ∷ keys)
      (ap (λ (m : ℕ). is_key t (slice_get (b ∷ keys) m)) (back n) ∙ (sym (ap (λ (m : ℕ). is_key t (slice_get (a ∷ b ∷ keys) m)) (back (suc n))) ∙ is))

-- ---- the ends of a SELECT

uncounted_sure : {A : Type 0} (P : A → Type 0) (known : Known) (count there : Truth) (step : Step A) → uncounted count there ≡ Ok tt → Sure P known step → Sure P known (Uncounted count there step)
uncounted_sure P known count there step free sure = told_then P known (uncounted count there) tt (λ u. step) free sure

module _ (known : Known) (scope : Scope) (t : TableDef) (read : CheckedRead) (s : Select) (count : Truth) where
  ends_sure : uncounted count (is_there s.order) ≡ Ok tt → uncounted count (is_some s.limit) ≡ Ok tt → uncounted count s.for_update ≡ Ok tt
      → Sure (λ ks. Pairs SameKey read.order ks) known (Each (OrderOf scope) s.order)
      → Sure (SameLimit read.limit) known (Maybe (λ e. Typed scope e asks_limit) s.limit)
      → ((ks : List OrderKey) → Pairs SameKey read.order ks → SameOrder read.order (with_key count t ks))
      → Sure (λ (ends : Ends). SameOrder read.order ends.0 × SameLimit read.limit ends.1) known (EndsOf count scope s t)
  ends_sure no_order no_limit no_lock order limit ends =
      followed (λ ks. Pairs SameKey read.order ks) (λ (es : Ends). SameOrder read.order es.0 × SameLimit read.limit es.1) known
      (Uncounted count (is_there s.order) (Each (OrderOf scope) s.order))
      (λ ks. Then (Uncounted count (is_some s.limit) (Maybe (λ e. Typed scope e asks_limit) s.limit)) (λ l. Uncounted count s.for_update (Gives (with_key count t ks, l))))
      (uncounted_sure (λ ks. Pairs SameKey read.order ks) known count (is_there s.order) (Each (OrderOf scope) s.order) no_order order)
      (λ ks same. followed (SameLimit read.limit) (λ (es : Ends). SameOrder read.order es.0 × SameLimit read.limit es.1) known
      (Uncounted count (is_some s.limit) (Maybe (λ e. Typed scope e asks_limit) s.limit)) (λ l. Uncounted count s.for_update (Gives (with_key count t ks, l)))
      (uncounted_sure (SameLimit read.limit) known count (is_some s.limit) (Maybe (λ e. Typed scope e asks_limit) s.limit) no_limit limit)
      (λ l near. uncounted_sure (λ (es : Ends). SameOrder read.order es.0 × SameLimit read.limit es.1) known count s.for_update (Gives (with_key count t ks, l)) no_lock
      (gives (λ (es : Ends). SameOrder read.order es.0 × SameLimit read.limit es.1) known (with_key count t ks, l) (ends ks same, near))))

-- ---- the whole

abbrev reads : Coded ReadEffect → Effect
reads r = record { draws = 0; given = made_of Reads r }

read_effect : (tables : List TableDef) (read again : CheckedRead) → SameRead read again → SameEffect tables (body.Read again) (body.Read read)
read_effect tables read again same view_around view next =
    ap reads (read_same view_around view read again same)

module _ (tables : List TableDef) (allowed : AreAllowed tables) (parameters : Truth) (kinds : List ColType) (may : MayHave parameters kinds) (read : CheckedRead) (descs : List ColumnDesc)
    (well : is_held_read read descs ≡ true) where
  abbrev IsRead : Body → Type 0
  IsRead b = SameEffect tables b.0 (body.Read read)

  well_list : (count : Truth) → read.count ≡ count → is_held_list count read.list descs ≡ true
  well_list count is = ap (λ (c : Truth). is_held_list c read.list descs) (sym is) ∙ (both_of (is_held_list read.count read.list descs) (is_held_option read.filter && is_held_option read.limit) well).0

  well_rest : (is_held_option read.filter ≡ true) × (is_held_option read.limit ≡ true)
  well_rest = both_of (is_held_option read.filter) (is_held_option read.limit) (both_of (is_held_list read.count read.list descs) (is_held_option read.filter && is_held_option read.limit) well).1

  -- without a table
  bare_same : read.table ≡ None → read.count ≡ false → is_none read.filter ≡ true → is_plain read ≡ true → (s : Select) (ys : List TypedExpr) → Pairs SameValue read.list ys → IsRead (bare_read s ys)
  bare_same table count filter plain s ys same =
      let rest = both_of (is_empty read.order) (is_none read.limit && not read.for_update) plain in
      let last = both_of (is_none read.limit) (not read.for_update) rest.1 in
      read_effect tables read (record { table = None; count = false; list = ys; filter = None; order = []; limit = None; for_update = false })
      (record {
        table = sym table;
        count = sym count;
        list = same;
        filter = subst (λ (f : Option TypedExpr). SameFilter f None) (sym (none_is read.filter filter)) tt;
        order = subst (λ (ks : List OrderKey). SameOrder ks []) (sym (empty_is read.order rest.0)) (λ x y. refl);
        limit = subst (λ (l : Option TypedExpr). SameLimit l None) (sym (none_is read.limit last.0)) tt;
        for_update = sym (not_is read.for_update last.1);
      })

  bare_sure : read.table ≡ None → (not read.count && is_bare (around [] kinds) read descs) ≡ true
      → Sure IsRead (known_of kinds) (SelectOf tables parameters (spelled_select None [] [] read descs) None)
  bare_sure table is =
      let both = both_of (not read.count) (is_bare (around [] kinds) read descs) is in
      let count = not_is read.count both.0 in
      let first = both_of (is_list (around [] kinds) read.list) (are_results read.list descs && (is_none read.filter && is_plain read)) both.1 in
      let second = both_of (are_results read.list descs) (is_none read.filter && is_plain read) first.1 in
      let third = both_of (is_none read.filter) (is_plain read) second.1 in
      let s = spelled_select None [] [] read descs in
      made (λ ys. Pairs SameValue read.list ys) IsRead (known_of kinds) (ListOf (alone parameters) [] s.list) (bare_read s)
      (subst (λ (c : Truth). Sure (λ ys. Pairs SameValue read.list ys) (known_of kinds) (ListOf (alone parameters) [] (spelled_list c [] read.list descs))) (sym count)
      (items_sure (alone parameters) [] kinds (alone_means parameters kinds may) [] read.list descs first.0 second.0 (well_list false count)))
      (bare_same table count third.0 third.1 s)

  -- from a table
  module _ (n : ℕ) (t : TableDef) (there : slice_get tables n ≡ Some t) (table : read.table ≡ Some n) where
    are : AreColumns t.key t.serial [] t.columns
    are = columns_are tables n t allowed there

    abbrev scope : Scope
    scope = over parameters t

    means : Means scope t.columns kinds
    means = over_means parameters kinds t may are

    -- the SELECT, where it is told whether it counts
    abbrev select : Truth → Select
    select count = record {
      list = spelled_list count t.columns read.list descs;
      table = Some t.name;
      filter = option_map (spelled t.columns) read.filter;
      order = map (spelled_key t.name t.columns) read.order;
      limit = option_map (spelled_whole t.columns) read.limit;
      for_update = read.for_update;
    }

    abbrev AreEnds : Ends → Type 0
    AreEnds ends = SameOrder read.order ends.0 × SameLimit read.limit ends.1

    whole : (count : Truth) → read.count ≡ count → counts (select count).list ≡ count → Sure (λ ys. Pairs SameValue read.list ys) (known_of kinds) (ListOf scope t.columns (select count).list)
        → is_filter (around t.columns kinds) read.filter ≡ true → Sure AreEnds (known_of kinds) (EndsOf (counts (select count).list) scope (select count) t)
        → Sure IsRead (known_of kinds) (ReadIn scope (select count) (n, t))
    whole count is tells list filter ends =
        followed (λ ys. Pairs SameValue read.list ys) IsRead (known_of kinds) (ListOf scope t.columns (select count).list)
        (λ ys. Then (FilterOf scope (select count).filter) (λ f. Made (read_of (n, t) (select count) ys f) (EndsOf (counts (select count).list) scope (select count) t))) list
        (λ ys same. followed (SameFilter read.filter) IsRead (known_of kinds) (FilterOf scope (select count).filter)
        (λ f. Made (read_of (n, t) (select count) ys f) (EndsOf (counts (select count).list) scope (select count) t))
        (filter_sure scope t.columns kinds means read.filter filter well_rest.0)
        (λ f filters. made AreEnds IsRead (known_of kinds) (EndsOf (counts (select count).list) scope (select count) t) (read_of (n, t) (select count) ys f) ends
        (λ es ends. read_effect tables read
        (record { table = Some n; count = counts (select count).list; list = ys; filter = f; order = es.0; limit = es.1; for_update = read.for_update })
        (record { table = sym table; count = tells ∙ sym is; list = same; filter = filters; order = ends.0; limit = ends.1; for_update = refl }))))

    by_count : (count : Truth) → read.count ≡ count → is_read_of kinds t count read descs ≡ true → Sure IsRead (known_of kinds) (ReadIn scope (select count) (n, t))
    by_count true is of =
        let names = around t.columns kinds in
        let first = both_of (is_empty read.list) (is_plain read && (is_filter names read.filter && is_count_result descs)) of in
        let second = both_of (is_plain read) (is_filter names read.filter && is_count_result descs) first.1 in
        let third = both_of (is_filter names read.filter) (is_count_result descs) second.1 in
        let plain = both_of (is_empty read.order) (is_none read.limit && not read.for_update) second.0 in
        let last = both_of (is_none read.limit) (not read.for_update) plain.1 in
        let none = empty_is read.order plain.0 in
        let no_limit = none_is read.limit last.0 in
        whole true is refl
        (subst (λ (es : List TypedExpr). Sure (λ ys. Pairs SameValue es ys) (known_of kinds) (Gives [])) (sym (empty_is read.list first.0)) (gives (λ ys. Pairs SameValue [] ys) (known_of kinds) [] tt))
        third.0
        (ends_sure (known_of kinds) scope t read (select true) true
        (ap (λ (ks : List OrderKey). uncounted true (is_there (map (spelled_key t.name t.columns) ks))) none)
        (ap (λ (l : Option TypedExpr). uncounted true (is_some (option_map (spelled_whole t.columns) l))) no_limit)
        (ap (uncounted true) (not_is read.for_update last.1))
        (order_sure parameters kinds t are read.order (ap (list_all (λ o. nat_lt o.column (length t.columns))) none))
        (limit_sure scope t.columns kinds means read.limit (ap (is_limit names) no_limit) well_rest.1)
        (λ ks same. same_keys read.order ks same))
    by_count false is of =
        let names = around t.columns kinds in
        let first = both_of (is_list names read.list) (are_results read.list descs && (is_filter names read.filter && (is_order t read.order && is_limit names read.limit))) of in
        let second = both_of (are_results read.list descs) (is_filter names read.filter && (is_order t read.order && is_limit names read.limit)) first.1 in
        let third = both_of (is_filter names read.filter) (is_order t read.order && is_limit names read.limit) second.1 in
        let fourth = both_of (is_order t read.order) (is_limit names read.limit) third.1 in
        let order = both_of (list_all (λ o. nat_lt o.column (length t.columns)) read.order) (is_key t (slice_get read.order (length read.order - 1))) fourth.0 in
        whole false is refl (items_sure scope t.columns kinds means t.columns read.list descs first.0 second.0 (well_list false is)) third.0
        (ends_sure (known_of kinds) scope t read (select false) false refl refl refl
        (order_sure parameters kinds t are read.order order.0)
        (limit_sure scope t.columns kinds means read.limit fourth.1 well_rest.1)
        (λ ks same. key_again (record { column = t.key; falling = false }) read.order ks same (ends_with parameters kinds t are read.order order.1)))

    table_sure : is_read_of kinds t read.count read descs ≡ true → Sure IsRead (known_of kinds) (SelectOf tables parameters (spelled_select (Some t.name) t.name t.columns read descs) (Some t.name))
    table_sure of =
        told_then IsRead (known_of kinds) (table_named tables t.name) (n, t) (ReadFrom parameters (spelled_select (Some t.name) t.name t.columns read descs))
        (named tables n t allowed there) (by_count read.count refl of)

  by_found : (n : ℕ) (o : Option TableDef) → slice_get tables n ≡ o → read.table ≡ Some n → is_read_from kinds o read descs ≡ true
      → Sure IsRead (known_of kinds) (SelectOf tables parameters (spelled_select (Some (name_of o)) (name_of o) (columns_of o) read descs) (Some (name_of o)))
  by_found n None there table of = absurd (let f : false ≡ true = of in cc)
  by_found n (Some t) there table of = table_sure n t there table of

  by_table : (o : Option ℕ) → read.table ≡ o → is_read_at tables kinds o read descs ≡ true
      → Sure IsRead (known_of kinds) (SelectOf tables parameters (spelled_read tables o read descs) (spelled_read tables o read descs).table)
  by_table None table of = bare_sure table of
  by_table (Some n) table of = by_found n (slice_get tables n) refl table of

  pub read_sure : is_read_at tables kinds read.table read descs ≡ true
      → Sure IsRead (known_of kinds) (SelectOf tables parameters (spelled_read tables read.table read descs) (spelled_read tables read.table read descs).table)
  read_sure of = by_table read.table refl of

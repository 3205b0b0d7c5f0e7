-- The number of a place among rows that stand in order.
use Rattle.std.proofs.Common.{Bor, ◌≡◌, ℕ, zero, suc, ◌<◌, ◌≤◌, List, [], ◌∷◌, map, length, get_or, refl, ap, sym, ◌∙◌, subst, arith}
use Rattle.std.specs.Prelude.{◌&&◌, ◌==◌, cond, not, filter, T, Bool as Truth, true, false, Option, Some, None, slice_get, if◌then◌else◌}
use Rattle.std.specs.List.{find}
use Rattle.std.specs.Option.{option_map}
use Rattle.std.specs.FinMap as fin
use Rattle.std.specs.FinMap.{entries-from_sorted, get-from_sorted}
use Rattle.std.specs.FinMap.Entries.{below_all, is_sorted}
use Rattle.std.specs.declared.cmp.Ordering.{Ordering}
use Rattle.std.specs.declared.cmp.Ordering.TheVariants.{Less, Equal, Greater}
use Rattle.std.specs.Ordering.{is_gt, nat_cmp, ordering_then}
use Rattle.std.specs.Cmp.{ranked}
use Rattle.std.proofs.lemmas.Bool.{eqb-true, eqb-false, ltb-false, ltb-true}
use Rattle.std.proofs.lemmas.Cmp.{tied_itself, nat_cmp_total}
use Rattle.pg_values.specs.declared.value.Value.{Value}
use Rattle.sql_eval.specs.declared.row.Row.{Row}
use Rattle.sql_eval.specs.Views.{Entry, entry, is_behind, key_order, row_behind}
use Rattle.backend_trait.specs.Keys.{Place, place, place_order}
use Rattle.backend_trait.proofs.KeyLaws.{place_antisymmetric, place_total}
use Rattle.outcomes.specs.Spread.{IsParted, StandsAt, StandsBetween}
use Rattle.outcomes.specs.Sights.{all_stood, is_before, is_up_to, row_in, rows_at}
use Rattle.outcomes.specs.declared.sight.Seen.{Seen}
use Rattle.outcomes.proofs.Entries.{both_hold, found_at, is_less, none_between}
use Rattle.outcomes.proofs.Standing.{table_le}

-- ---- the row of a place

pub row_at_place : (p : Place) (xs : List Seen) (n : ℕ) (d : Seen) → T (is_sorted place_order (all_stood xs)) → n < length xs → StandsAt place_order p (all_stood xs) n
    → fin.get (rows_at xs) p ≡ Some (get_or xs n d).row.now
row_at_place p xs n d sorted below at =
    get-from_sorted place_order (all_stood xs) p sorted ∙ (found_at place_order place_total place_antisymmetric p (all_stood xs) n sorted at ∙ there xs n below)
  where
    there : (xs : List Seen) (n : ℕ) → n < length xs → option_map (λ (e : Place × Row). e.1) (slice_get (all_stood xs) n) ≡ Some (get_or xs n d).row.now
    there [] n below = absurd (omega arith)
    there (x ∷ xs) zero below = refl
    there (x ∷ xs) (suc n) below = there xs n (omega arith)

pub none_at_place : (p : Place) (xs : List Seen) (n : ℕ) → T (is_sorted place_order (all_stood xs)) → StandsBetween place_order p (all_stood xs) n → fin.get (rows_at xs) p ≡ None
none_at_place p xs n sorted between =
    get-from_sorted place_order (all_stood xs) p sorted ∙ none_between place_order place_total p p (all_stood xs) n between (tied_itself place_total p)

-- ---- the first row of a table, and the row behind a key

abbrev pub to_entry : Place × Row → Entry
to_entry e = entry e.0.key e.1

abbrev pub row_of : Entry → Row
row_of e = e.row

module _ (table : ℕ) where
  abbrev is_of : Place × Row → Truth
  is_of e = e.0.table == table

  abbrev those_of : List (Place × Row) → List Entry
  those_of es = map to_entry (filter is_of es)

  -- behind a later table stands none of this one
  pub none_later : (q : Place) (es : List (Place × Row)) → table < q.table → T (below_all place_order q es) → filter is_of es ≡ []
  none_later q [] later below = refl
  none_later q (e ∷ es) later below =
      let parts = both_hold _ _ below in
      let up = table_le q e.0 (is_less (place_order q e.0) parts.0) in
      go (none_later q es later parts.1) (e.0.table == table) refl (omega arith)
    where
      go : filter is_of es ≡ [] → (b : Truth) → (e.0.table == table) ≡ b → table < e.0.table → cond b (e ∷ filter is_of es) (filter is_of es) ≡ []
      go none true is after = absurd (let same : e.0.table ≡ table = eqb-true e.0.table table is in omega arith)
      go none false is after = none

  pub other_table : (a : ℕ) → (a == table) ≡ false → a ≡ table → ⊥
  other_table a is same = eqb-false a table is same

  module _ (after : Option Value) where
    abbrev pub found_in : List (Place × Row) → Option Entry
    found_in es = find (is_behind after) (those_of es)

    -- an entry of another table, or one that is not behind, is passed; one that is behind is found
    pub passed_by : (e : Place × Row) (es : List (Place × Row)) (b c : Truth) → is_of e ≡ b → is_behind after (to_entry e) ≡ c → (b && c) ≡ false → found_in (e ∷ es) ≡ found_in es
    passed_by e es false c is behind neither = ap (λ (b : Truth). find (is_behind after) (map to_entry (cond b (e ∷ filter is_of es) (filter is_of es)))) is
    passed_by e es true true is behind neither = absurd (let f : true ≡ false = neither in cc)
    passed_by e es true false is behind neither =
        ap (λ (b : Truth). find (is_behind after) (map to_entry (cond b (e ∷ filter is_of es) (filter is_of es)))) is
        ∙ ap (λ (c : Truth). cond c (Some (to_entry e)) (find (is_behind after) (those_of es))) behind

    pub first_found : (e : Place × Row) (es : List (Place × Row)) → is_of e ≡ true → is_behind after (to_entry e) ≡ true → found_in (e ∷ es) ≡ Some (to_entry e)
    first_found e es is behind =
        ap (λ (b : Truth). find (is_behind after) (map to_entry (cond b (e ∷ filter is_of es) (filter is_of es)))) is
        ∙ ap (λ (c : Truth). cond c (Some (to_entry e)) (find (is_behind after) (those_of es))) behind

    pub none_found : (e : Place × Row) (es : List (Place × Row)) → is_of e ≡ false → table < e.0.table → T (below_all place_order e.0 es) → found_in (e ∷ es) ≡ None
    none_found e es is later below =
        ap (λ (b : Truth). find (is_behind after) (map to_entry (cond b (e ∷ filter is_of es) (filter is_of es)))) is
        ∙ ap (λ (fs : List (Place × Row)). find (is_behind after) (map to_entry fs)) (none_later e.0 es later below)

    -- the test ends where the entries begin that are behind
    module _ (test : Place × Row → Truth) (passes : (e : Place × Row) → test e ≡ true → is_of e ≡ true → is_behind after (to_entry e) ≡ false) (fails : (e : Place × Row) → test e ≡ false → is_of e ≡ true → is_behind after (to_entry e) ≡ true) (later : (e : Place × Row) → test e ≡ false → is_of e ≡ false → table < e.0.table) where
      pub found_there : (es : List (Place × Row)) (n : ℕ) → T (is_sorted place_order es) → IsParted test es n → option_map row_of (found_in es) ≡ row_in table (slice_get es n)
      found_there [] zero sorted parted = refl
      found_there [] (suc n) sorted parted = absurd parted
      found_there (e ∷ es) zero sorted parted = go (is_of e) refl
        where
          go : (b : Truth) → is_of e ≡ b → option_map row_of (found_in (e ∷ es)) ≡ (if b then Some e.1 else None)
          go true is = ap (option_map row_of) (first_found e es is (fails e parted.0 is))
          go false is = let parts = both_hold _ _ sorted in ap (option_map row_of) (none_found e es is (later e parted.0 is) parts.0)
      found_there (e ∷ es) (suc n) sorted parted =
          let parts = both_hold _ _ sorted in
          ap (option_map row_of) (go (is_of e) refl) ∙ found_there es n parts.1 parted.1
        where
          go : (b : Truth) → is_of e ≡ b → found_in (e ∷ es) ≡ found_in es
          go true is = passed_by e es true false is (passes e parted.0 is) refl
          go false is = passed_by e es false (is_behind after (to_entry e)) is refl refl

pub first_there : (table : ℕ) (xs : List Seen) (n : ℕ) → T (is_sorted place_order (all_stood xs)) → IsParted (is_before table) (all_stood xs) n
    → row_behind (rows_at xs) table None ≡ row_in table (slice_get (all_stood xs) n)
first_there table xs n sorted parted =
    ap (λ (es : List (Place × Row)). option_map row_of (find (is_behind None) (those_of table es))) (entries-from_sorted place_order (all_stood xs) sorted)
    ∙ found_there table None (is_before table) passes (λ e fails is. refl) later (all_stood xs) n sorted parted
  where
    passes : (e : Place × Row) → is_before table e ≡ true → is_of table e ≡ true → true ≡ false
    passes e is of = absurd (let below : e.0.table < table = ltb-true e.0.table table is in let same : e.0.table ≡ table = eqb-true e.0.table table of in omega arith)

    later : (e : Place × Row) → is_before table e ≡ false → is_of table e ≡ false → table < e.0.table
    later e is of = let up : table ≤ e.0.table = ltb-false e.0.table table is in let other = other_table table e.0.table of in omega arith

-- places of one table stand as their keys do
pub same_table : (p : Place) (table : ℕ) (key : Value) → p.table ≡ table → place_order p (place table key) ≡ key_order p.key key
same_table p table key same = ap (λ (r : Ordering). ordering_then r (key_order p.key key)) (ap (λ (n : ℕ). nat_cmp n table) same ∙ tied_itself nat_cmp_total table)

-- one of another table that stands behind is of a later one
pub later_table : (p : Place) (table : ℕ) (key : Value) → is_gt (place_order p (place table key)) ≡ true → (p.table ≡ table → ⊥) → table < p.table
later_table p table key is other = go (nat_cmp p.table table) refl is
  where
    go : (r : Ordering) → nat_cmp p.table table ≡ r → is_gt (ordering_then r (key_order p.key key)) ≡ true → table < p.table
    go Less e gt = absurd (let f : false ≡ true = gt in cc)
    go Equal e gt = absurd (other (ranked p.table table Equal (sym e)))
    go Greater e gt = ranked p.table table Greater (sym e)

pub not_true : (b : Truth) → not b ≡ true → b ≡ false
not_true true e = absurd (let f : false ≡ true = e in cc)
not_true false e = refl

pub not_false : (b : Truth) → not b ≡ false → b ≡ true
not_false true e = refl
not_false false e = absurd (let f : true ≡ false = e in cc)

pub behind_there : (table : ℕ) (key : Value) (xs : List Seen) (n : ℕ) → T (is_sorted place_order (all_stood xs)) → IsParted (is_up_to (place table key)) (all_stood xs) n
    → row_behind (rows_at xs) table (Some key) ≡ row_in table (slice_get (all_stood xs) n)
behind_there table key xs n sorted parted =
    ap (λ (es : List (Place × Row)). option_map row_of (find (is_behind (Some key)) (those_of table es))) (entries-from_sorted place_order (all_stood xs) sorted)
    ∙ found_there table (Some key) (is_up_to (place table key)) passes fails later (all_stood xs) n sorted parted
  where
    passes : (e : Place × Row) → is_up_to (place table key) e ≡ true → is_of table e ≡ true → is_gt (key_order e.0.key key) ≡ false
    passes e is of = ap is_gt (sym (same_table e.0 table key (eqb-true e.0.table table of))) ∙ not_true (is_gt (place_order e.0 (place table key))) is

    fails : (e : Place × Row) → is_up_to (place table key) e ≡ false → is_of table e ≡ true → is_gt (key_order e.0.key key) ≡ true
    fails e is of = ap is_gt (sym (same_table e.0 table key (eqb-true e.0.table table of))) ∙ not_false (is_gt (place_order e.0 (place table key))) is

    later : (e : Place × Row) → is_up_to (place table key) e ≡ false → is_of table e ≡ false → table < e.0.table
    later e is of = later_table e.0 table key (not_false (is_gt (place_order e.0 (place table key))) is) (other_table table e.0.table of)

-- ---- what calls answer of them

pub row_found : (p : Place) (xs ys : List Seen) (n : ℕ) (d : Seen) → ys ≡ xs → T (is_sorted place_order (all_stood xs)) → (n < length ys) × StandsAt place_order p (all_stood ys) n
    → d ≡ get_or xs n d → Some d.row.now ≡ fin.get (rows_at xs) p
row_found p xs ys n d same sorted at is =
    let here : (n < length xs) × StandsAt place_order p (all_stood xs) n = subst (λ (zs : List Seen). (n < length zs) × StandsAt place_order p (all_stood zs) n) same at in
    ap (λ (s : Seen). Some s.row.now) is ∙ sym (row_at_place p xs n d sorted here.0 here.1)

pub row_unfound : (p : Place) (xs ys : List Seen) (n : ℕ) → ys ≡ xs → T (is_sorted place_order (all_stood xs)) → (n ≤ length ys) × StandsBetween place_order p (all_stood ys) n
    → None ≡ fin.get (rows_at xs) p
row_unfound p xs ys n same sorted between =
    let here : (n ≤ length xs) × StandsBetween place_order p (all_stood xs) n = subst (λ (zs : List Seen). (n ≤ length zs) × StandsBetween place_order p (all_stood zs) n) same between in
    sym (none_at_place p xs n sorted here.1)

pub first_answered : (table : ℕ) (k : Option (Bor Value)) (xs ys : List Seen) (n : ℕ) (r : Option Row) → k ≡ None → ys ≡ xs → T (is_sorted place_order (all_stood xs))
    → IsParted (is_before table) (all_stood ys) n → r ≡ row_in table (slice_get (all_stood xs) n)
    → r ≡ row_behind (rows_at xs) table (option_map (λ (b : Bor Value). b.now) k)
first_answered table k xs ys n r none same sorted parted is =
    is
    ∙ (sym (first_there table xs n sorted (subst (λ (zs : List Seen). IsParted (is_before table) (all_stood zs) n) same parted))
    ∙ ap (λ (b : Option (Bor Value)). row_behind (rows_at xs) table (option_map (λ (b : Bor Value). b.now) b)) (sym none))

pub behind_answered : (table : ℕ) (k : Option (Bor Value)) (key : Bor Value) (xs ys : List Seen) (n : ℕ) (r : Option Row) → k ≡ Some key → ys ≡ xs
    → T (is_sorted place_order (all_stood xs)) → IsParted (is_up_to (place table key.now)) (all_stood ys) n → r ≡ row_in table (slice_get (all_stood xs) n)
    → r ≡ row_behind (rows_at xs) table (option_map (λ (b : Bor Value). b.now) k)
behind_answered table k key xs ys n r some same sorted parted is =
    is
    ∙ (sym (behind_there table key.now xs n sorted (subst (λ (zs : List Seen). IsParted (is_up_to (place table key.now)) (all_stood zs) n) same parted))
    ∙ ap (λ (b : Option (Bor Value)). row_behind (rows_at xs) table (option_map (λ (b : Bor Value). b.now) b)) (sym some))

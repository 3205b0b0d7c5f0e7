-- Own changes over the rows of an index: what is seen at each place, and what comes first behind a key.
use Rattle.std.proofs.Common.{Bor, ◌≡◌, ℕ, zero, suc, ◌+◌, ◌<◌, ◌≤◌, List, [], ◌∷◌, drop, get_or, length, refl, ap, sym, ◌∙◌, subst, add-one, arith}
use Rattle.std.specs.Prelude.{not, T, Bool as Truth, true, false, Option, Some, None, IfSome, slice_get}
use Rattle.std.specs.List.{AllByRecursion, find as first}
use Rattle.std.specs.Option.{option_map}
use Rattle.std.specs.FinMap as fin
use Rattle.std.specs.FinMap.Entries.{below_all, find, is_sorted}
use Rattle.std.specs.declared.cmp.Ordering.{Ordering}
use Rattle.std.specs.declared.cmp.Ordering.TheVariants.{Less, Equal, Greater}
use Rattle.std.specs.Ordering.{is_gt, is_lt, nat_cmp, ordering_then}
use Rattle.std.specs.Cmp.{ranked}
use Rattle.std.proofs.lemmas.Bool.{ltb-false, ltb-true}
use Rattle.std.proofs.lemmas.Cmp.{tied_itself}
use Rattle.std.proofs.lemmas.List.{drop_all}
use Rattle.std.proofs.lemmas.Option.{slice_get_past, slice_get_read}
use Rattle.pg_values.specs.declared.value.Value.{Value}
use Rattle.sql_eval.specs.declared.row.Row.{Row}
use Rattle.sql_eval.specs.declared.effect.Change.{Change}
use Rattle.sql_eval.specs.Views.{Entry, entries_in, is_behind, row_behind}
use Rattle.backend_trait.specs.Keys.{Place, key_order, place, place_order}
use Rattle.backend_trait.specs.Effect.{changes_of}
use Rattle.backend_trait.specs.Rows.{Rows}
use Rattle.backend_trait.proofs.KeyLaws.{key_antisymmetric, key_total, place_antisymmetric, place_total}
use Rattle.backend_trait.proofs.RowLaws.{get-laid_over, row_over}
use Rattle.outcomes.specs.Spread.{IsParted, StandsAt, StandsBetween}
use Rattle.outcomes.specs.declared.chain.Version.{Version}
use Rattle.outcomes.specs.declared.chain.Chain.{Chain}
use Rattle.outcomes.specs.declared.index.Index.{Index}
use Rattle.outcomes.specs.Behind.{IsFirstRow, IsNext, is_after}
use Rattle.outcomes.specs.Chains.{Chained, all_chained, chained, shown, shown_at, versions_in}
use Rattle.outcomes.specs.Indexed.{rows_in_index}
use Rattle.outcomes.specs.Layered.{AreMade, IsElsewhere, seen_rows}
use Rattle.outcomes.specs.Sights.{is_passed, is_up_to}
use Rattle.outcomes.proofs.Behind.{first_stands, next_row, none_stands}
use Rattle.outcomes.proofs.Entries.{both_hold, found_at, hold_both, is_less, less_holds, none_between, passed, turned_greater, turned_less}
use Rattle.outcomes.proofs.Numbers.{later_table, not_false, row_of, same_table}

-- ---- orders

gt_is : (o : Ordering) → is_gt o ≡ true → o ≡ Greater
gt_is Less is = absurd (let f : false ≡ true = is in cc)
gt_is Equal is = absurd (let f : false ≡ true = is in cc)
gt_is Greater is = refl

-- a place before one that stands before all does too
before_all : (p q : Place) (es : Chained) → place_order p q ≡ Less → T (below_all place_order q es) → T (below_all place_order p es)
before_all p q [] less below = tt
before_all p q (e ∷ es) less below =
    let parts = both_hold _ _ below in
    hold_both (is_lt (place_order p e.0)) (below_all place_order p es) (less_holds (place_order p e.0) (place_total.trans p q e.0 less (is_less (place_order q e.0) parts.0))) (before_all p q es less parts.1)

none_before_all : (p : Place) (es : Chained) → T (below_all place_order p es) → find place_order p es ≡ None
none_before_all p [] below = refl
none_before_all p (e ∷ es) below =
    let parts = both_hold _ _ below in
    passed place_order place_total p Less e es (is_less (place_order p e.0) parts.0) refl ∙ none_before_all p es parts.1

-- a place before that of an entry stands before all from it on
before_from : (p : Place) (es : Chained) (n : ℕ) (e : Place × List Version) → T (is_sorted place_order es) → slice_get es n ≡ Some e → place_order p e.0 ≡ Less → T (below_all place_order p (drop n es))
before_from p [] n e sorted there less = absurd (let f : None ≡ Some e = there in cc)
before_from p (x ∷ es) zero e sorted there less =
    let parts = both_hold _ _ sorted in
    let same : x ≡ e = cc in
    let low : place_order p x.0 ≡ Less = ap (λ (y : Place × List Version). place_order p y.0) same ∙ less in
    hold_both (is_lt (place_order p x.0)) (below_all place_order p es) (less_holds (place_order p x.0) low) (before_all p x.0 es low parts.0)
before_from p (x ∷ es) (suc n) e sorted there less = let parts = both_hold _ _ sorted in before_from p es n e parts.1 there less

-- ---- what is passed

module _ (table : ℕ) (after : Option Value) where
  passed_greater : (e : Place × List Version) (q : Value) → is_passed table after e ≡ true → is_after after q ≡ true → place_order (place table q) e.0 ≡ Greater
  passed_greater e q is behind = turned_greater place_order place_total e.0 (place table q) (go after is behind)
    where
      go : (a : Option Value) → is_passed table a e ≡ true → is_after a q ≡ true → place_order e.0 (place table q) ≡ Less
      go None is behind = by_table (nat_cmp e.0.table table) refl
        where
          below : e.0.table < table
          below = ltb-true e.0.table table is

          by_table : (r : Ordering) → nat_cmp e.0.table table ≡ r → ordering_then r (key_order e.0.key q) ≡ Less
          by_table Less at = refl
          by_table Equal at = absurd (let same : e.0.table ≡ table = ranked e.0.table table Equal (sym at) in omega (arith, same, below))
          by_table Greater at = absurd (let up : table < e.0.table = ranked e.0.table table Greater (sym at) in omega (arith, up, below))
      go (Some key) is behind = by_order (place_order e.0 (place table key)) refl
        where
          less : place_order (place table key) (place table q) ≡ Less
          less = turned_less place_order place_total (place table q) (place table key) (same_table (place table q) table key refl ∙ gt_is (key_order q key) behind)

          by_order : (r : Ordering) → place_order e.0 (place table key) ≡ r → place_order e.0 (place table q) ≡ Less
          by_order Less at = place_total.trans e.0 (place table key) (place table q) at less
          by_order Equal at = place_total.congr e.0 (place table key) (place table q) at ∙ less
          by_order Greater at = absurd (let f : false ≡ true = sym (ap (λ (r : Ordering). not (is_gt r)) at) ∙ is in cc)

  -- an entry that is not passed is behind, or of a later table
  unpassed_after : (e : Place × List Version) → is_passed table after e ≡ false → e.0.table ≡ table → is_after after e.0.key ≡ true
  unpassed_after e is same = go after is
    where
      go : (a : Option Value) → is_passed table a e ≡ false → is_after a e.0.key ≡ true
      go None is = refl
      go (Some key) is = ap is_gt (sym (same_table e.0 table key same)) ∙ not_false (is_gt (place_order e.0 (place table key))) is

  unpassed_later : (e : Place × List Version) → is_passed table after e ≡ false → (e.0.table ≡ table → ⊥) → table < e.0.table
  unpassed_later e is other = go after is
    where
      go : (a : Option Value) → is_passed table a e ≡ false → table < e.0.table
      go None is = let up : table ≤ e.0.table = ltb-false e.0.table table is in by_order (nat_cmp table e.0.table) refl up
        where
          by_order : (r : Ordering) → nat_cmp table e.0.table ≡ r → table ≤ e.0.table → table < e.0.table
          by_order Less at up = ranked table e.0.table Less (sym at)
          by_order Equal at up = absurd (other (sym (ranked table e.0.table Equal (sym at))))
          by_order Greater at up = absurd (let down : e.0.table < table = ranked table e.0.table Greater (sym at) in omega (arith, up, down))
      go (Some key) is = later_table e.0 table key (not_false (is_gt (place_order e.0 (place table key))) is) other

  -- a key behind, before all that is not passed, has nothing there
  unpassed_none : (es : Chained) (n : ℕ) (q : Value) → IsParted (is_passed table after) es n → is_after after q ≡ true → T (below_all place_order (place table q) (drop n es)) → find place_order (place table q) es ≡ None
  unpassed_none es zero q parted behind below = none_before_all (place table q) es below
  unpassed_none [] (suc n) q parted behind below = refl
  unpassed_none (e ∷ es) (suc n) q parted behind below =
      passed place_order place_total (place table q) Greater e es (passed_greater e q parted.0 behind) refl ∙ unpassed_none es n q parted.1 behind below

-- the entry at which a test ends fails it
parted_fails : (test : Place × List Version → Truth) (es : Chained) (n : ℕ) (e : Place × List Version) → IsParted test es n → slice_get es n ≡ Some e → test e ≡ false
parted_fails test [] n e parted there = absurd (let f : None ≡ Some e = there in cc)
parted_fails test (x ∷ es) zero e parted there = let same : x ≡ e = cc in ap test (sym same) ∙ parted.0
parted_fails test (x ∷ es) (suc n) e parted there = parted_fails test es n e parted.1 there

pub parted_bound : (test : Place × List Version → Truth) (es : Chained) (n : ℕ) → IsParted test es n → n ≤ length es
parted_bound test es zero parted = omega arith
parted_bound test [] (suc n) parted = absurd parted
parted_bound test (e ∷ es) (suc n) parted = let rest = parted_bound test es n parted.1 in omega (arith, rest)

-- the entries up to one do not stand behind it
behind_one : (es : Chained) (n : ℕ) (e : Place × List Version) → T (is_sorted place_order es) → slice_get es n ≡ Some e → IsParted (is_up_to e.0) es (suc n)
behind_one [] n e sorted there = absurd (let f : None ≡ Some e = there in cc)
behind_one (x ∷ es) zero e sorted there =
    let parts = both_hold _ _ sorted in
    let same : x ≡ e = cc in
    subst (λ (y : Place × List Version). (is_up_to y.0 x ≡ true) × AllByRecursion (λ z. is_up_to y.0 z ≡ false) es) same
    (ap (λ (r : Ordering). not (is_gt r)) (tied_itself place_total x.0), rest es parts.0)
  where
    rest : (es : Chained) → T (below_all place_order x.0 es) → AllByRecursion (λ z. is_up_to x.0 z ≡ false) es
    rest [] below = tt
    rest (z ∷ es) below =
        let parts = both_hold _ _ below in
        (ap (λ (r : Ordering). not (is_gt r)) (turned_greater place_order place_total x.0 z.0 (is_less (place_order x.0 z.0) parts.0)), rest es parts.1)
behind_one (x ∷ es) (suc n) e sorted there =
    let parts = both_hold _ _ sorted in
    (ap (λ (r : Ordering). not (is_gt r)) (below_there x.0 es n parts.0 there), behind_one es n e parts.1 there)
  where
    below_there : (q : Place) (es : Chained) (n : ℕ) → T (below_all place_order q es) → slice_get es n ≡ Some e → place_order q e.0 ≡ Less
    below_there q [] n below there = absurd (let f : None ≡ Some e = there in cc)
    below_there q (y ∷ es) zero below there = let parts = both_hold _ _ below in let same : y ≡ e = cc in ap (λ (z : Place × List Version). place_order q z.0) (sym same) ∙ is_less (place_order q y.0) parts.0
    below_there q (y ∷ es) (suc n) below there = let parts = both_hold _ _ below in below_there q es n parts.1 there

-- ---- chains

chained_there : (xs : List Chain) (n : ℕ) (x : Chain) → slice_get xs n ≡ Some x → slice_get (all_chained xs) n ≡ Some (chained x)
chained_there [] n x there = absurd (let f : None ≡ Some x = there in cc)
chained_there (y ∷ xs) zero x there = let same : y ≡ x = cc in ap (λ (c : Chain). Some (chained c)) same
chained_there (y ∷ xs) (suc n) x there = chained_there xs n x there

pub parted_on : (table : ℕ) (xs : List Chain) (n : ℕ) (x : Chain) → T (is_sorted place_order (all_chained xs)) → slice_get xs n ≡ Some x → x.table ≡ table
    → IsParted (is_passed table (Some x.key)) (all_chained xs) (n + 1)
parted_on table xs n x sorted there same =
    subst (IsParted (is_up_to (place table x.key)) (all_chained xs)) (sym (add-one n))
    (subst (λ (p : Place). IsParted (is_up_to p) (all_chained xs) (suc n)) (λ i. place (same i) x.key) (behind_one (all_chained xs) n (chained x) sorted (chained_there xs n x there)))

pub chain_at : (xs ys : List Chain) (n : ℕ) (x : Chain) → ys ≡ xs → n < length ys → x ≡ get_or ys n x → slice_get xs n ≡ Some x
chain_at xs ys n x same below is = subst (λ (zs : List Chain). slice_get zs n ≡ Some x) same (slice_get_read ys (length ys) n x refl below is)

pub elsewhere_at : (table : ℕ) (xs : List Chain) (n : ℕ) (x : Chain) → slice_get xs n ≡ Some x → (x.table ≡ table → ⊥) → IsElsewhere table (slice_get xs n)
elsewhere_at table xs n x there other = subst (IsElsewhere table) (sym there) other

pub elsewhere_past : (table : ℕ) (xs : List Chain) (n : ℕ) → length xs ≤ n → IsElsewhere table (slice_get xs n)
elsewhere_past table xs n past = subst (IsElsewhere table) (sym (slice_get_past xs n past)) tt

-- ---- what is seen

module _ (changes : List Change) (index : Index) (mark : ℕ) (own : List Chain) (made : AreMade changes (all_chained own)) (sorted : T (is_sorted place_order (all_chained own))) where
  abbrev seen : Rows
  seen = seen_rows changes index mark

  abbrev below : Rows
  below = rows_in_index index mark

  get_seen : (p : Place) → fin.get seen p ≡ row_over (shown_at 1 (all_chained own) p) (fin.get below p)
  get_seen p = get-laid_over (changes_of changes) below p ∙ ap (λ (c : Option (Option Row)). row_over c (fin.get below p)) (sym (made p))

  own_none : (p : Place) → find place_order p (all_chained own) ≡ None → fin.get seen p ≡ fin.get below p
  own_none p none = get_seen p ∙ ap (λ (o : Option (List Version)). row_over (shown 1 (versions_in o)) (fin.get below p)) none

  -- the row of a place
  pub seen_shown : (p : Place) (n : ℕ) (x : Chain) (left : Option Row) → slice_get own n ≡ Some x → StandsAt place_order p (all_chained own) n → shown 1 x.versions.items ≡ Some left → left ≡ fin.get seen p
  seen_shown p n x left there at is =
      sym (get_seen p
      ∙ (ap (λ (o : Option (List Version)). row_over (shown 1 (versions_in o)) (fin.get below p))
      (found_at place_order place_total place_antisymmetric p (all_chained own) n sorted at ∙ ap (option_map (λ (e : Place × List Version). e.1)) (chained_there own n x there))
      ∙ ap (λ (c : Option (Option Row)). row_over c (fin.get below p)) is))

  pub seen_unshown : (p : Place) (n : ℕ) (x : Chain) (r : Option Row) → slice_get own n ≡ Some x → StandsAt place_order p (all_chained own) n → shown 1 x.versions.items ≡ None → r ≡ fin.get below p → r ≡ fin.get seen p
  seen_unshown p n x r there at is r_is =
      r_is
      ∙ sym (get_seen p
      ∙ (ap (λ (o : Option (List Version)). row_over (shown 1 (versions_in o)) (fin.get below p))
      (found_at place_order place_total place_antisymmetric p (all_chained own) n sorted at ∙ ap (option_map (λ (e : Place × List Version). e.1)) (chained_there own n x there))
      ∙ ap (λ (c : Option (Option Row)). row_over c (fin.get below p)) is))

  pub seen_below : (p : Place) (n : ℕ) (r : Option Row) → StandsBetween place_order p (all_chained own) n → r ≡ fin.get below p → r ≡ fin.get seen p
  seen_below p n r between r_is = r_is ∙ sym (own_none p (none_between place_order place_total p p (all_chained own) n between (tied_itself place_total p)))

  module _ (table : ℕ) (after : Option Value) (n : ℕ) (parted : IsParted (is_passed table after) (all_chained own) n) where
    -- where no own change comes behind the key, what comes first below comes first
    elsewhere_below : (k : Value) (o : Option Chain) → slice_get own n ≡ o → IsElsewhere table o → T (below_all place_order (place table k) (drop n (all_chained own)))
    elsewhere_below k None none is =
        subst (λ (es : Chained). T (below_all place_order (place table k) es)) (sym (drop_all n (all_chained own) (past own n none))) tt
      where
        past : (xs : List Chain) (n : ℕ) → slice_get xs n ≡ None → length (all_chained xs) ≤ n
        past [] n none = omega arith
        past (x ∷ xs) zero none = absurd (let f : Some x ≡ None = none in cc)
        past (x ∷ xs) (suc n) none = let rest = past xs n none in omega (arith, rest)
    elsewhere_below k (Some x) there is =
        let later : table < x.table = unpassed_later table after (chained x) (parted_fails (is_passed table after) (all_chained own) n (chained x) parted (chained_there own n x there)) is in
        before_from (place table k) (all_chained own) n (chained x) sorted (chained_there own n x there) (by_table later (nat_cmp table x.table) refl)
      where
        by_table : table < x.table → (r : Ordering) → nat_cmp table x.table ≡ r → ordering_then r (key_order k x.key) ≡ Less
        by_table later Less at = refl
        by_table later Equal at = absurd (let same : table ≡ x.table = ranked table x.table Equal (sym at) in omega (arith, same, later))
        by_table later Greater at = absurd (let down : x.table < table = ranked table x.table Greater (sym at) in omega (arith, down, later))

    same_below : IsElsewhere table (slice_get own n) → (k : Value) → is_after after k ≡ true → fin.get seen (place table k) ≡ fin.get below (place table k)
    same_below elsewhere k behind = own_none (place table k) (unpassed_none table after (all_chained own) n k parted behind (elsewhere_below k (slice_get own n) refl elsewhere))

    pub next_below : (x : Option Entry) → IsElsewhere table (slice_get own n) → x ≡ first (is_behind after) (entries_in below table) → IsNext seen table after (option_map row_of x)
    next_below None elsewhere is = λ k behind. same_below elsewhere k behind ∙ none_stands table after below (sym is) k behind
    next_below (Some x) elsewhere is =
        let one = first_stands table after below x (sym is) in (
          x.key,
          record {
            there = same_below elsewhere x.key one.behind ∙ one.there;
            behind = one.behind;
            first = λ k behind less. same_below elsewhere k behind ∙ one.first k behind less;
          },
        )

    -- where an own change comes
    module _ (x : Chain) (there : slice_get own n ≡ Some x) (same : x.table ≡ table) where
      before_own : (k : Value) → is_after after k ≡ true → key_order k x.key ≡ Less → fin.get seen (place table k) ≡ fin.get below (place table k)
      before_own k behind less =
          let low : place_order (place table k) (chained x).0 ≡ Less = ap (λ (t : ℕ). place_order (place table k) (place t x.key)) same ∙ (same_table (place table k) table x.key refl ∙ less) in
          own_none (place table k) (unpassed_none table after (all_chained own) n k parted behind (before_from (place table k) (all_chained own) n (chained x) sorted (chained_there own n x there) low))

      own_behind : is_after after x.key ≡ true
      own_behind = unpassed_after table after (chained x) (parted_fails (is_passed table after) (all_chained own) n (chained x) parted (chained_there own n x there)) same

      -- a row below comes before the own change
      pub below_first : (e : Entry) → Some e ≡ first (is_behind after) (entries_in below table) → key_order e.key x.key ≡ Less → IsFirstRow seen table after e.row
      below_first e is less =
          let one = first_stands table after below e (sym is) in (
            e.key,
            record {
              there = before_own e.key one.behind less ∙ one.there;
              behind = one.behind;
              first = λ k behind low. before_own k behind (key_total.trans k e.key x.key low less) ∙ one.first k behind low;
            },
          )

      -- none does
      abbrev Quiet : Type 0
      Quiet = (k : Value) → is_after after k ≡ true → key_order k x.key ≡ Less → fin.get seen (place table k) ≡ None

      pub quiet_none : None ≡ first (is_behind after) (entries_in below table) → Quiet
      quiet_none is = λ k behind less. before_own k behind less ∙ none_stands table after below (sym is) k behind

      pub quiet_some : (e : Entry) → Some e ≡ first (is_behind after) (entries_in below table) → is_lt (key_order e.key x.key) ≡ false → Quiet
      quiet_some e is later = λ k behind less.
          let one = first_stands table after below e (sym is) in
          before_own k behind less ∙ one.first k behind (up k less (key_order e.key x.key) refl)
        where
          up : (k : Value) → key_order k x.key ≡ Less → (r : Ordering) → key_order e.key x.key ≡ r → key_order k e.key ≡ Less
          up k less Less at = absurd (let f : true ≡ false = sym (ap is_lt at) ∙ later in cc)
          up k less Equal at = ap (key_order k) (key_antisymmetric e.key x.key at) ∙ less
          up k less Greater at = key_total.trans k x.key e.key less (turned_less key_order key_total e.key x.key at)

      pub own_first : (row : Row) → Quiet → Some row ≡ fin.get seen (place table x.key) → IsFirstRow seen table after row
      own_first row quiet is = (x.key, record { there = sym is; behind = own_behind; first = quiet })

      pub own_passed : Quiet → None ≡ fin.get seen (place table x.key) → (k : Value) → is_after after k ≡ true → is_after (Some x.key) k ≡ false → fin.get seen (place table k) ≡ None
      own_passed quiet is = λ k behind up. go k behind (key_order k x.key) refl up
        where
          go : (k : Value) → is_after after k ≡ true → (r : Ordering) → key_order k x.key ≡ r → is_gt r ≡ false → fin.get seen (place table k) ≡ None
          go k behind Less at up = quiet k behind at
          go k behind Equal at up = ap (λ (j : Value). fin.get seen (place table j)) (key_antisymmetric k x.key at) ∙ sym is
          go k behind Greater at up = absurd (let f : true ≡ false = up in cc)

      pub own_some : (r : Option (Bor Row)) → Quiet → option_map (λ (b : Bor Row). b.now) r ≡ fin.get seen (place table x.key) → IfSome r (λ row. IsFirstRow seen table after row.now)
      own_some None quiet is = tt
      own_some (Some row) quiet is = own_first row.now quiet is

      pub own_left : (r : Option (Bor Row)) → Quiet → option_map (λ (b : Bor Row). b.now) r ≡ fin.get seen (place table x.key) → r ≡ None → (k : Value) → is_after after k ≡ true → is_after (Some x.key) k ≡ false
          → fin.get seen (place table k) ≡ None
      own_left r quiet is none = own_passed quiet (ap (λ (o : Option (Bor Row)). option_map (λ (b : Bor Row). b.now) o) (sym none) ∙ is)

      -- a key behind the own change is behind
      pub rises_on : (k : Value) → is_after (Some x.key) k ≡ true → is_after after k ≡ true
      rises_on k is = go after own_behind
        where
          go : (a : Option Value) → is_after a x.key ≡ true → is_after a k ≡ true
          go None behind = refl
          go (Some key) behind =
              ap is_gt (turned_greater key_order key_total key k
              (key_total.trans key x.key k (turned_less key_order key_total x.key key (gt_is (key_order x.key key) behind)) (turned_less key_order key_total k x.key (gt_is (key_order k x.key) is))))

-- ---- a walk over own changes

pub record IsReached (rows : Rows) (table : ℕ) (start after : Option Value) : Type 0 where
  pub rises : (k : Value) → is_after after k ≡ true → is_after start k ≡ true
  pub none : (k : Value) → is_after start k ≡ true → is_after after k ≡ false → fin.get rows (place table k) ≡ None

pub reached_first : (rows : Rows) (table : ℕ) (start : Option Value) → IsReached rows table start start
reached_first rows table start = record { rises = λ k is. is; none = λ k is apart. absurd (let f : true ≡ false = sym is ∙ apart in cc) }

module _ (rows : Rows) (table : ℕ) (start after : Option Value) (reached : IsReached rows table start after) where
  either : (k : Value) → is_after start k ≡ true → (is_after after k ≡ true → fin.get rows (place table k) ≡ None) → fin.get rows (place table k) ≡ None
  either k behind none = go (is_after after k) refl
    where
      go : (b : Truth) → is_after after k ≡ b → fin.get rows (place table k) ≡ None
      go true is = none is
      go false is = reached.none k behind is

  pub next_reached : (r : Option Row) → IsNext rows table after r → r ≡ row_behind rows table start
  next_reached None none = next_row table start rows None (λ k behind. either k behind (none k))
  next_reached (Some row) (key, one) =
      next_row table start rows (Some row)
      (key, record { there = one.there; behind = reached.rises key one.behind; first = λ k behind less. either k behind (λ is. one.first k is less) })

  pub reached_more : (key : Value) → ((k : Value) → is_after (Some key) k ≡ true → is_after after k ≡ true)
      → ((k : Value) → is_after after k ≡ true → is_after (Some key) k ≡ false → fin.get rows (place table k) ≡ None) → IsReached rows table start (Some key)
  reached_more key rises none = record {
    rises = λ k is. reached.rises k (rises k is);
    none = λ k behind apart. either k behind (λ is. none k is apart);
  }

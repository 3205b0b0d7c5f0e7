-- A list of entries in the order of their keys, of which one is changed.
use Rattle.std.proofs.Common.{◌≡◌, ℕ, zero, suc, List, [], ◌∷◌, set, refl, ap, sym, ◌∙◌, subst}
use Rattle.std.specs.Prelude.{◌&&◌, cond, T, Bool as Truth, true, false, Some, None, slice_get}
use Rattle.std.specs.List.{AllByRecursion, insert, remove}
use Rattle.std.specs.Option.{option_map}
use Rattle.std.specs.FinMap.{IsAntisymmetric}
use Rattle.std.specs.FinMap.Entries.{below_all, find, is_sorted}
use Rattle.std.specs.declared.cmp.Ordering.{Ordering}
use Rattle.std.specs.declared.cmp.Ordering.TheVariants.{Less, Equal, Greater}
use Rattle.std.specs.Ordering.{eq_by_cmp, is_eq, is_lt, ordering_reverse}
use Rattle.std.specs.Cmp.{IsTotalOrder}
use Rattle.std.proofs.lemmas.Cmp.{tied_itself}
use Rattle.outcomes.specs.Spread.{StandsAt, StandsBetween}

pub both_hold : (a b : Truth) → T (a && b) → T a × T b
both_hold true b h = (tt, h)
both_hold false b h = absurd h

pub hold_both : (a b : Truth) → T a → T b → T (a && b)
hold_both true b p q = q
hold_both false b p q = p

pub is_less : (o : Ordering) → T (is_lt o) → o ≡ Less
is_less Less h = refl
is_less Equal h = absurd h
is_less Greater h = absurd h

pub less_holds : (o : Ordering) → o ≡ Less → T (is_lt o)
less_holds o is = subst (λ (r : Ordering). T (is_lt r)) (sym is) tt

pub equal : (o : Ordering) → is_eq o ≡ true → o ≡ Equal
equal Less is = absurd (let e : false ≡ true = is in cc)
equal Equal is = refl
equal Greater is = absurd (let e : false ≡ true = is in cc)

swapped : {A : Type 0} (a b : Truth) (x y z : A) → (a ≡ true → b ≡ true → ⊥) → cond a x (cond b y z) ≡ cond b y (cond a x z)
swapped true true x y z apart = absurd (apart refl refl)
swapped true false x y z apart = refl
swapped false b x y z apart = refl

shadowed : {A : Type 0} (b : Truth) (x y z : A) → cond b x z ≡ cond b x (cond b y z)
shadowed true x y z = refl
shadowed false x y z = refl

module _ {K : Type 0} (R : K → K → Ordering) (o : IsTotalOrder R) where
  pub turned_less : (x y : K) → R x y ≡ Greater → R y x ≡ Less
  turned_less x y is = o.antisymm y x ∙ ap ordering_reverse is

  pub turned_greater : (x y : K) → R x y ≡ Less → R y x ≡ Greater
  turned_greater x y is = o.antisymm y x ∙ ap ordering_reverse is

  -- no key ties with two that are apart
  apart_less : (q e k : K) → R e k ≡ Less → eq_by_cmp R q e ≡ true → eq_by_cmp R q k ≡ true → ⊥
  apart_less q e k less a b = let none : Less ≡ Equal = sym less ∙ (sym (o.congr q e k (equal (R q e) a)) ∙ equal (R q k) b) in cc

module _ {K X : Type 0} (R : K → K → Ordering) (o : IsTotalOrder R) where
  pub passed : (q : K) (r : Ordering) (e : K × X) (es : List (K × X)) → R q e.0 ≡ r → is_eq r ≡ false → find R q (e ∷ es) ≡ find R q es
  passed q r e es is apart = ap (λ (b : Truth). cond b (Some e.1) (find R q es)) (ap is_eq is ∙ apart)

  pub unfound : (q x : K) (es : List (K × X)) → R q x ≡ Equal → T (below_all R x es) → find R q es ≡ None
  unfound q x [] tie below = refl
  unfound q x (e ∷ es) tie below =
      let parts = both_hold _ _ below in
      passed q Less e es (o.congr q x e.0 tie ∙ is_less (R x e.0) parts.0) refl ∙ unfound q x es tie parts.1

  -- ---- an entry put between others

  below_greater : (k : K) (es : List (K × X)) → AllByRecursion (λ (e : K × X). R e.0 k ≡ Greater) es → T (below_all R k es)
  below_greater k [] all = tt
  below_greater k (e ∷ es) all = hold_both (is_lt (R k e.0)) (below_all R k es) (less_holds (R k e.0) (turned_less R o e.0 k all.0)) (below_greater k es all.1)

  below_put : (x k : K) (v : X) (es : List (K × X)) (n : ℕ) → R x k ≡ Less → T (below_all R x es) → T (below_all R x (insert es n (k, v)))
  below_put x k v es zero less below = hold_both (is_lt (R x k)) (below_all R x es) (less_holds (R x k) less) below
  below_put x k v [] (suc n) less below = hold_both (is_lt (R x k)) true (less_holds (R x k) less) tt
  below_put x k v (e ∷ es) (suc n) less below =
      let parts = both_hold _ _ below in
      hold_both (is_lt (R x e.0)) (below_all R x (insert es n (k, v))) parts.0 (below_put x k v es n less parts.1)

  pub put_sorted : (k : K) (v : X) (es : List (K × X)) (n : ℕ) → T (is_sorted R es) → StandsBetween R k es n → T (is_sorted R (insert es n (k, v)))
  put_sorted k v es zero sorted between = hold_both (below_all R k es) (is_sorted R es) (below_greater k es between) sorted
  put_sorted k v [] (suc n) sorted between = absurd between
  put_sorted k v (e ∷ es) (suc n) sorted between =
      let parts = both_hold _ _ sorted in
      hold_both (below_all R e.0 (insert es n (k, v))) (is_sorted R (insert es n (k, v))) (below_put e.0 k v es n between.0 parts.0)
      (put_sorted k v es n parts.1 between.1)

  pub put_found : (q k : K) (v : X) (es : List (K × X)) (n : ℕ) → StandsBetween R k es n → find R q (insert es n (k, v)) ≡ cond (eq_by_cmp R q k) (Some v) (find R q es)
  put_found q k v es zero between = refl
  put_found q k v [] (suc n) between = absurd between
  put_found q k v (e ∷ es) (suc n) between =
      ap (cond (eq_by_cmp R q e.0) (Some e.1)) (put_found q k v es n between.1)
      ∙ swapped (eq_by_cmp R q e.0) (eq_by_cmp R q k) (Some e.1) (Some v) (find R q es) (apart_less R o q e.0 k between.0)

  -- between others is none of the key
  none_greater : (q k : K) (es : List (K × X)) → AllByRecursion (λ (e : K × X). R e.0 k ≡ Greater) es → R q k ≡ Equal → find R q es ≡ None
  none_greater q k [] all tie = refl
  none_greater q k (e ∷ es) all tie = passed q Less e es (o.congr q k e.0 tie ∙ turned_less R o e.0 k all.0) refl ∙ none_greater q k es all.1 tie

  pub none_between : (q k : K) (es : List (K × X)) (n : ℕ) → StandsBetween R k es n → R q k ≡ Equal → find R q es ≡ None
  none_between q k es zero between tie = none_greater q k es between tie
  none_between q k [] (suc n) between tie = absurd between
  none_between q k (e ∷ es) (suc n) between tie = passed q Greater e es (o.congr q k e.0 tie ∙ turned_greater R o e.0 k between.0) refl ∙ none_between q k es n between.1 tie

  pub left_found : (q k : K) (es : List (K × X)) (n : ℕ) → StandsBetween R k es n → find R q es ≡ cond (eq_by_cmp R q k) None (find R q es)
  left_found q k es n between = go (eq_by_cmp R q k) refl
    where
      go : (b : Truth) → eq_by_cmp R q k ≡ b → find R q es ≡ cond b None (find R q es)
      go true is = none_between q k es n between (equal (R q k) is)
      go false is = refl

  -- ---- an entry that stands there

  module _ (same : IsAntisymmetric R) where
    pub below_stands : (x k : K) (es : List (K × X)) (n : ℕ) → T (below_all R x es) → StandsAt R k es n → R x k ≡ Less
    below_stands x k [] n below at = absurd at
    below_stands x k (e ∷ es) zero below at = let parts = both_hold _ _ below in ap (R x) (sym (same e.0 k at)) ∙ is_less (R x e.0) parts.0
    below_stands x k (e ∷ es) (suc n) below at = let parts = both_hold _ _ below in below_stands x k es n parts.1 at

    below_set : (x k : K) (v : X) (es : List (K × X)) (n : ℕ) → T (below_all R x es) → StandsAt R k es n → T (below_all R x (set es n (k, v)))
    below_set x k v [] n below at = absurd at
    below_set x k v (e ∷ es) zero below at =
        let parts = both_hold _ _ below in
        hold_both (is_lt (R x k)) (below_all R x es) (less_holds (R x k) (below_stands x k (e ∷ es) zero below at)) parts.1
    below_set x k v (e ∷ es) (suc n) below at =
        let parts = both_hold _ _ below in
        hold_both (is_lt (R x e.0)) (below_all R x (set es n (k, v))) parts.0 (below_set x k v es n parts.1 at)

    pub set_sorted : (k : K) (v : X) (es : List (K × X)) (n : ℕ) → T (is_sorted R es) → StandsAt R k es n → T (is_sorted R (set es n (k, v)))
    set_sorted k v [] n sorted at = absurd at
    set_sorted k v (e ∷ es) zero sorted at =
        let parts = both_hold _ _ sorted in
        hold_both (below_all R k es) (is_sorted R es) (subst (λ (x : K). T (below_all R x es)) (same e.0 k at) parts.0) parts.1
    set_sorted k v (e ∷ es) (suc n) sorted at =
        let parts = both_hold _ _ sorted in
        hold_both (below_all R e.0 (set es n (k, v))) (is_sorted R (set es n (k, v))) (below_set e.0 k v es n parts.0 at) (set_sorted k v es n parts.1 at)

    pub set_found : (q k : K) (v : X) (es : List (K × X)) (n : ℕ) → T (is_sorted R es) → StandsAt R k es n
        → find R q (set es n (k, v)) ≡ cond (eq_by_cmp R q k) (Some v) (find R q es)
    set_found q k v [] n sorted at = absurd at
    set_found q k v (e ∷ es) zero sorted at =
        shadowed (eq_by_cmp R q k) (Some v) (Some e.1) (find R q es)
        ∙ ap (λ (x : K). cond (eq_by_cmp R q k) (Some v) (cond (eq_by_cmp R q x) (Some e.1) (find R q es))) (sym (same e.0 k at))
    set_found q k v (e ∷ es) (suc n) sorted at =
        let parts = both_hold _ _ sorted in
        ap (cond (eq_by_cmp R q e.0) (Some e.1)) (set_found q k v es n parts.1 at)
        ∙ swapped (eq_by_cmp R q e.0) (eq_by_cmp R q k) (Some e.1) (Some v) (find R q es) (apart_less R o q e.0 k (below_stands e.0 k es n parts.0 at))

    below_removed : (x : K) (es : List (K × X)) (n : ℕ) → T (below_all R x es) → T (below_all R x (remove es n))
    below_removed x [] zero below = tt
    below_removed x [] (suc n) below = tt
    below_removed x (e ∷ es) zero below = let parts = both_hold _ _ below in parts.1
    below_removed x (e ∷ es) (suc n) below =
        let parts = both_hold _ _ below in
        hold_both (is_lt (R x e.0)) (below_all R x (remove es n)) parts.0 (below_removed x es n parts.1)

    pub removed_sorted : (es : List (K × X)) (n : ℕ) → T (is_sorted R es) → T (is_sorted R (remove es n))
    removed_sorted [] zero sorted = tt
    removed_sorted [] (suc n) sorted = tt
    removed_sorted (e ∷ es) zero sorted = let parts = both_hold _ _ sorted in parts.1
    removed_sorted (e ∷ es) (suc n) sorted =
        let parts = both_hold _ _ sorted in
        hold_both (below_all R e.0 (remove es n)) (is_sorted R (remove es n)) (below_removed e.0 es n parts.0) (removed_sorted es n parts.1)

    pub removed_found : (q k : K) (es : List (K × X)) (n : ℕ) → T (is_sorted R es) → StandsAt R k es n
        → find R q (remove es n) ≡ cond (eq_by_cmp R q k) None (find R q es)
    removed_found q k [] n sorted at = absurd at
    removed_found q k (e ∷ es) zero sorted at =
        let parts = both_hold _ _ sorted in
        let below : T (below_all R k es) = subst (λ (x : K). T (below_all R x es)) (same e.0 k at) parts.0 in
        first below (eq_by_cmp R q k) refl
        ∙ ap (λ (x : K). cond (eq_by_cmp R q k) None (cond (eq_by_cmp R q x) (Some e.1) (find R q es))) (sym (same e.0 k at))
      where
        first : T (below_all R k es) → (b : Truth) → eq_by_cmp R q k ≡ b → find R q es ≡ cond b None (cond b (Some e.1) (find R q es))
        first below true is = unfound q k es (equal (R q k) is) below
        first below false is = refl
    removed_found q k (e ∷ es) (suc n) sorted at =
        let parts = both_hold _ _ sorted in
        ap (cond (eq_by_cmp R q e.0) (Some e.1)) (removed_found q k es n parts.1 at)
        ∙ swapped (eq_by_cmp R q e.0) (eq_by_cmp R q k) (Some e.1) None (find R q es) (apart_less R o q e.0 k (below_stands e.0 k es n parts.0 at))

    -- what is found of a key is the entry that stands there
    pub found_at : (k : K) (es : List (K × X)) (n : ℕ) → T (is_sorted R es) → StandsAt R k es n → find R k es ≡ option_map (λ (e : K × X). e.1) (slice_get es n)
    found_at k [] n sorted at = absurd at
    found_at k (e ∷ es) zero sorted at = ap (λ (r : Ordering). cond (is_eq r) (Some e.1) (find R k es)) (ap (R k) (same e.0 k at) ∙ tied_itself o k)
    found_at k (e ∷ es) (suc n) sorted at =
        let parts = both_hold _ _ sorted in
        passed k Greater e es (turned_greater R o e.0 k (below_stands e.0 k es n parts.0 at)) refl ∙ found_at k es n parts.1 at

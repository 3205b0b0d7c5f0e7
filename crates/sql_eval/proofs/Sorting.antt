-- A stable sort has one answer.
use Rattle.std.proofs.Common.{◌≡◌, ℕ, suc, ◌<◌, ◌≤◌, List, [], ◌∷◌, map, length, get_or, refl, sym, ap, ◌∙◌, subst, arith}
use Rattle.std.specs.Prelude.{◌&&◌, Bool as Truth, true, false, not, cond, if◌then◌else◌}
use Rattle.std.specs.List.{AllByRecursion, filter}
use Rattle.std.specs.List.Sorted.{ties}
use Rattle.std.specs.Cmp.{IsStrictWeakOrder}
use Rattle.std.specs.declared.cmp.Ordering.{Ordering}
use Rattle.std.specs.Ordering.{is_lt, is_gt}
use Rattle.std.proofs.lemmas.List.Sorted.{sorted_far}
use Rattle.std.specs.List.Sorted.{IsSortedBy}
use Rattle.sql_eval.specs.Ordered.{put_in, sorted}

-- what passes a test is of a list that all is true of
passing : {X : Type 0} (P : X → Type 0) (p : X → Truth) (xs : List X) (a : X) (rest : List X) → AllByRecursion P xs → filter p xs ≡ a ∷ rest → P a
passing P p [] a rest all e = absurd (cc)
passing P p (x ∷ xs) a rest all e =
    elim (p x) as (λ b. cond b (x ∷ filter p xs) (filter p xs) ≡ a ∷ rest → P a) [
      | true ↦ λ e. let same : x ≡ a = cc in subst P same all.0
      | false ↦ λ e. passing P p xs a rest all.1 e
    ] e

module _ {X : Type 0} (lt : X → X → Truth) (o : IsStrictWeakOrder lt) where
  -- none is less than one before it
  abbrev pub Rises : List X → Type 0
  Rises [] = Unit {0}
  Rises (x ∷ xs) = AllByRecursion (λ y. lt y x ≡ false) xs × Rises xs

  rises_above : (x : X) (xs : List X) → ((k : ℕ) → k < length xs → lt (get_or xs k x) x ≡ false) → AllByRecursion (λ y. lt y x ≡ false) xs
  rises_above x [] h = tt
  rises_above x (y ∷ ys) h = (h 0 (omega arith), rises_above x ys (λ k p. h (suc k) (omega arith)))

  -- what a sort says of neighbours holds of all
  pub rises_all : (xs : List X) → IsSortedBy lt xs → Rises xs
  rises_all xs up = all xs (sorted_far lt o xs up)
    where
      all : (xs : List X) → ((i j : ℕ) (d : X) → i ≤ j → j < length xs → lt (get_or xs j d) (get_or xs i d) ≡ false) → Rises xs
      all [] h = tt
      all (x ∷ xs) h = (rises_above x xs (λ k p. h 0 (suc k) x (omega arith) (omega arith)), all xs (λ i j d p q. h (suc i) (suc j) d (omega arith) (omega arith)))

  never_less : (x : X) → lt x x ≡ false
  never_less x = elim (lt x x) as (λ b. lt x x ≡ b → lt x x ≡ false) [ true ↦ λ e. o.one_way x x e | false ↦ λ e. e ] refl

  tied : (x y : X) → lt x y ≡ false → lt y x ≡ false → ties lt x y ≡ true
  tied x y a b = ap (λ p. not p && not (lt y x)) a ∙ ap (λ p. not p) b

  ties_self : (x : X) → ties lt x x ≡ true
  ties_self x = tied x x (never_less x) (never_less x)

  with_self : (x : X) (xs : List X) → filter (ties lt x) (x ∷ xs) ≡ x ∷ filter (ties lt x) xs
  with_self x xs = ap (λ b. cond b (x ∷ filter (ties lt x) xs) (filter (ties lt x) xs)) (ties_self x)

  all_from : (x : X) (xs : List X) → Rises (x ∷ xs) → AllByRecursion (λ y. lt y x ≡ false) (x ∷ xs)
  all_from x xs r = (never_less x, r.0)

  -- the first of two lists that rise and hold the same
  first_alike : (y z : X) (ys zs : List X) → Rises (y ∷ ys) → Rises (z ∷ zs)
      → ((x : X) → filter (ties lt x) (y ∷ ys) ≡ filter (ties lt x) (z ∷ zs)) → y ≡ z
  first_alike y z ys zs r s same =
      let in_zs : filter (ties lt y) (z ∷ zs) ≡ y ∷ filter (ties lt y) ys = sym (same y) ∙ with_self y ys in
      let in_ys : filter (ties lt z) (y ∷ ys) ≡ z ∷ filter (ties lt z) zs = same z ∙ with_self z zs in
      let yz : lt y z ≡ false = passing (λ u. lt u z ≡ false) (ties lt y) (z ∷ zs) y _ (all_from z zs s) in_zs in
      let zy : lt z y ≡ false = passing (λ u. lt u y ≡ false) (ties lt z) (y ∷ ys) z _ (all_from y ys r) in_ys in
      let here : cond (ties lt y z) (z ∷ filter (ties lt y) zs) (filter (ties lt y) zs) ≡ z ∷ filter (ties lt y) zs
      = ap (λ b. cond b (z ∷ filter (ties lt y) zs) (filter (ties lt y) zs)) (tied y z yz zy) in
      cc

  less_one : (b : Truth) (x : X) (xs ys : List X) → cond b (x ∷ xs) xs ≡ cond b (x ∷ ys) ys → xs ≡ ys
  less_one true x xs ys e = cc
  less_one false x xs ys e = e

  pub sorts_alike : (ys zs : List X) → Rises ys → Rises zs → ((x : X) → filter (ties lt x) ys ≡ filter (ties lt x) zs) → ys ≡ zs
  sorts_alike [] [] r s same = refl
  sorts_alike [] (z ∷ zs) r s same = let e : [] ≡ z ∷ filter (ties lt z) zs = same z ∙ with_self z zs in absurd (cc)
  sorts_alike (y ∷ ys) [] r s same = let e : y ∷ filter (ties lt y) ys ≡ [] = sym (with_self y ys) ∙ same y in absurd (cc)
  sorts_alike (y ∷ ys) (z ∷ zs) r s same =
      let first : y ≡ z = first_alike y z ys zs r s same in
      let rest : (x : X) → filter (ties lt x) ys ≡ filter (ties lt x) zs = λ x.
      less_one (ties lt x y) y (filter (ties lt x) ys) (filter (ties lt x) zs)
      (same x ∙ ap (λ u. cond (ties lt x u) (u ∷ filter (ties lt x) zs) (filter (ties lt x) zs)) (sym first)) in
      ap (λ us. y ∷ us) (sorts_alike ys zs r.1 s.1 rest) ∙ ap (λ u. u ∷ zs) first

-- ---- putting one after another into what is sorted

both_true : (a b : Truth) → (a && b) ≡ true → (a ≡ true) × (b ≡ true)
both_true true b e = (refl, e)
both_true false b e = absurd (cc)

not_true : (a : Truth) → not a ≡ true → a ≡ false
not_true true e = absurd (cc)
not_true false e = refl

module _ {X : Type 0} (order : X → X → Ordering) (o : IsStrictWeakOrder (λ (x y : X). is_lt (order x y))) (flips : (x y : X) → is_gt (order x y) ≡ is_lt (order y x)) where
  abbrev less : X → X → Truth
  less x y = is_lt (order x y)

  all_put : (P : X → Type 0) (e : X) (fs : List X) → P e → AllByRecursion P fs → AllByRecursion P (put_in order e fs)
  all_put P e [] here all = (here, tt)
  all_put P e (f ∷ fs) here all =
      elim (is_gt (order e f)) as (λ b. AllByRecursion P (if b then f ∷ put_in order e fs else e ∷ f ∷ fs)) [
        | true ↦ (all.0, all_put P e fs here all.1)
        | false ↦ (here, all)
      ]

  all_behind : (e f : X) (fs : List X) → less f e ≡ false → AllByRecursion (λ y. less y f ≡ false) fs → AllByRecursion (λ y. less y e ≡ false) fs
  all_behind e f [] not_less all = tt
  all_behind e f (y ∷ ys) not_less all = (o.chain y f e all.0 not_less, all_behind e f ys not_less all.1)

  rises_put : (e : X) (fs : List X) → Rises less o fs → Rises less o (put_in order e fs)
  rises_put e [] r = (tt, tt)
  rises_put e (f ∷ fs) r =
      elim (is_gt (order e f)) as (λ b. is_gt (order e f) ≡ b → Rises less o (if b then f ∷ put_in order e fs else e ∷ f ∷ fs)) [
        | true ↦ λ gt. (all_put (λ y. less y f ≡ false) e fs (o.one_way f e (sym (flips e f) ∙ gt)) r.0, rises_put e fs r.1)
        | false ↦ λ gt. let not_less : less f e ≡ false = sym (flips e f) ∙ gt in ((not_less, all_behind e f fs not_less r.0), r)
      ] refl

  pub sorted_rises : (es : List X) → Rises less o (sorted order es)
  sorted_rises [] = tt
  sorted_rises (e ∷ es) = rises_put e (sorted order es) (sorted_rises es)

  -- what stands before another does not tie with it
  apart : (x e f : X) → less f e ≡ true → ties less x e ≡ true → ties less x f ≡ true → ⊥
  apart x e f is te tf =
      let xe : less x e ≡ false = not_true (less x e) (both_true (not (less x e)) (not (less e x)) te).0 in
      let fx : less f x ≡ false = not_true (less f x) (both_true (not (less x f)) (not (less f x)) tf).1 in
      let other : less f e ≡ false = o.chain f x e fx xe in
      absurd (cc)

  swapped : (te tf : Truth) (e f : X) (rest : List X) → (te ≡ true → tf ≡ true → ⊥)
      → cond tf (f ∷ cond te (e ∷ rest) rest) (cond te (e ∷ rest) rest) ≡ cond te (e ∷ cond tf (f ∷ rest) rest) (cond tf (f ∷ rest) rest)
  swapped true true e f rest never = absurd (never refl refl)
  swapped true false e f rest never = refl
  swapped false true e f rest never = refl
  swapped false false e f rest never = refl

  ties_put : (x e : X) (fs : List X) → filter (ties less x) (put_in order e fs) ≡ filter (ties less x) (e ∷ fs)
  ties_put x e [] = refl
  ties_put x e (f ∷ fs) =
      elim (is_gt (order e f)) as (λ b. is_gt (order e f) ≡ b → filter (ties less x) (if b then f ∷ put_in order e fs else e ∷ f ∷ fs) ≡ filter (ties less x) (e ∷ f ∷ fs)) [
        | true ↦ λ gt.
            ap (λ (ys : List X). cond (ties less x f) (f ∷ ys) ys) (ties_put x e fs)
            ∙ swapped (ties less x e) (ties less x f) e f (filter (ties less x) fs) (λ te tf. apart x e f (sym (flips e f) ∙ gt) te tf)
        | false ↦ λ gt. refl
      ] refl

  pub sorted_ties : (x : X) (es : List X) → filter (ties less x) (sorted order es) ≡ filter (ties less x) es
  sorted_ties x [] = refl
  sorted_ties x (e ∷ es) = ties_put x e (sorted order es) ∙ ap (λ (ys : List X). cond (ties less x e) (e ∷ ys) ys) (sorted_ties x es)

  -- what rises and keeps what ties in its order is what that gives
  pub sorted_once : (xs ys : List X) → Rises less o ys → ((x : X) → filter (ties less x) ys ≡ filter (ties less x) xs) → ys ≡ sorted order xs
  sorted_once xs ys rises same =
      sorts_alike less o ys (sorted order xs) rises (sorted_rises xs) (λ x. same x ∙ sym (sorted_ties x xs))

-- ---- what a sort of things does to what they stand for

module _ {X Y : Type 0} (f : X → Y) (order : Y → Y → Ordering) where
  abbrev by : X → X → Ordering
  by x y = order (f x) (f y)

  mapped_put : (e : X) (fs : List X) → map f (put_in by e fs) ≡ put_in order (f e) (map f fs)
  mapped_put e [] = refl
  mapped_put e (x ∷ xs) =
      elim (is_gt (by e x)) as (λ b. map f (if b then x ∷ put_in by e xs else e ∷ x ∷ xs) ≡ (if b then f x ∷ put_in order (f e) (map f xs) else f e ∷ f x ∷ map f xs)) [
        | true ↦ ap (λ ys. f x ∷ ys) (mapped_put e xs)
        | false ↦ refl
      ]

  pub mapped_sorted : (xs : List X) → map f (sorted by xs) ≡ sorted order (map f xs)
  mapped_sorted [] = refl
  mapped_sorted (x ∷ xs) = mapped_put x (sorted by xs) ∙ ap (put_in order (f x)) (mapped_sorted xs)

-- Where a place stands among things that stand in the order of their places.
use Rattle.std.proofs.Common.{Bor, ◌≡◌, ℕ, zero, suc, ◌-◌, ◌<◌, ◌≤◌, List, [], ◌∷◌, map, length, get_or, refl, ap, sym, ◌∙◌, subst, arith}
use Rattle.std.specs.Prelude.{not, T, Bool as Truth, true, false, Option, Some, None, Result, Ok, Err, IfOk, IfErr, is_some}
use Rattle.std.specs.List.{AllWithin, HoldsAt}
use Rattle.std.specs.Slice.{IsGetResult}
use Rattle.std.specs.List.Sorted.{IsBinarySearchResult, IsNonDecreasingBy, IsPartitionedBy, IsPartitionPoint, IsSearchInRange}
use Rattle.std.specs.Option.{MatchOption}
use Rattle.std.specs.FinMap.Entries.{below_all, is_sorted}
use Rattle.std.specs.declared.cmp.Ordering.{Ordering}
use Rattle.std.specs.declared.cmp.Ordering.TheVariants.{Less, Equal, Greater}
use Rattle.std.specs.Ordering.{is_gt, is_lt, nat_cmp, ordering_index, ordering_then}
use Rattle.std.specs.Cmp.{ranked}
use Rattle.std.proofs.lemmas.Bool.{lt-ltb, ltb-true}
use Rattle.sql_eval.specs.Views.{key_order}
use Rattle.backend_trait.specs.Keys.{Place, place_order}
use Rattle.backend_trait.proofs.KeyLaws.{place_total}
use Rattle.outcomes.specs.Spread.{IsParted, StandsAt, StandsBetween}
use Rattle.outcomes.specs.Sights.{is_before, is_up_to}
use Rattle.outcomes.proofs.Entries.{both_hold, is_less, turned_greater, turned_less}

-- ---- of two places

least : (o : Ordering) → ordering_index o ≤ 0 → o ≡ Less
least Less low = refl
least Equal low = absurd (omega arith)
least Greater low = absurd (omega arith)

pub lt_is : (o : Ordering) → is_lt o ≡ true → o ≡ Less
lt_is Less e = refl
lt_is Equal e = absurd (let f : false ≡ true = e in cc)
lt_is Greater e = absurd (let f : false ≡ true = e in cc)

-- of two places the first is of no later table
pub table_le : (p q : Place) → place_order p q ≡ Less → p.table ≤ q.table
table_le p q less = go (nat_cmp p.table q.table) refl less
  where
    go : (r : Ordering) → nat_cmp p.table q.table ≡ r → ordering_then r (key_order p.key q.key) ≡ Less → p.table ≤ q.table
    go Less is stands = let below : p.table < q.table = ranked p.table q.table Less (sym is) in omega arith
    go Equal is stands = let same : p.table ≡ q.table = ranked p.table q.table Equal (sym is) in omega arith
    go Greater is stands = absurd (let e : Greater ≡ Less = stands in cc)

pub before_falls : {Y : Type 0} (table : ℕ) (a b : Place × Y) → place_order a.0 b.0 ≡ Less → is_before table b ≡ true → is_before table a ≡ true
before_falls table a b less is =
    let up : a.0.table ≤ b.0.table = table_le a.0 b.0 less in
    let below : b.0.table < table = ltb-true b.0.table table is in
    lt-ltb a.0.table table (omega arith)

pub up_to_falls : {Y : Type 0} (p : Place) (a b : Place × Y) → place_order a.0 b.0 ≡ Less → is_up_to p b ≡ true → is_up_to p a ≡ true
up_to_falls p a b less is = go (place_order a.0 p) refl
  where
    go : (r : Ordering) → place_order a.0 p ≡ r → not (is_gt r) ≡ true
    go Less e = refl
    go Equal e = refl
    go Greater e =
        let greater : place_order b.0 p ≡ Greater =
        turned_greater place_order place_total p b.0 (place_total.trans p a.0 b.0 (turned_less place_order place_total a.0 p e) less) in
        absurd (let f : false ≡ true = sym (ap (λ (r : Ordering). not (is_gt r)) greater) ∙ is in cc)

module _ {X Y : Type 0} (stood : X → Place × Y) where
  -- the number that a search answers

  module _ (p : Place) where
    abbrev order_of : X → Ordering
    order_of y = place_order (stood y).0 p

    held_stands : (xs : List X) (n : ℕ) → n < length xs → ((d : X) → order_of (get_or xs n d) ≡ Equal) → StandsAt place_order p (map stood xs) n
    held_stands [] n below held = absurd (omega arith)
    held_stands (x ∷ xs) zero below held = held x
    held_stands (x ∷ xs) (suc n) below held = held_stands xs n (omega arith) (λ d. held d)

    within_between : (xs : List X) (n : ℕ) → n ≤ length xs → AllWithin (λ y. order_of y ≡ Less) xs 0 n → AllWithin (λ y. order_of y ≡ Greater) xs n (length xs)
        → StandsBetween place_order p (map stood xs) n
    within_between [] zero bound less greater = tt
    within_between [] (suc n) bound less greater = absurd (omega arith)
    within_between (x ∷ xs) zero bound less greater = (
      greater zero x (omega arith) (omega arith),
      within_between xs zero (omega arith) (λ k d low high. absurd (omega arith)) (λ k d low high. greater (suc k) d (omega arith) (omega arith)),
    )
    within_between (x ∷ xs) (suc n) bound less greater = (
      less zero x (omega arith) (omega arith),
      within_between xs n (omega arith) (λ k d low high. less (suc k) d (omega arith) (omega arith)) (λ k d low high. greater (suc k) d (omega arith) (omega arith)),
    )

    index_rises : (a b : Place) → place_order a b ≡ Less → ordering_index (place_order a p) ≤ ordering_index (place_order b p)
    index_rises a b less = go (place_order a p) refl
      where
        go : (r : Ordering) → place_order a p ≡ r → ordering_index r ≤ ordering_index (place_order b p)
        go Less is = omega arith
        go Equal is =
            subst (λ (r : Ordering). 1 ≤ ordering_index r) (sym (turned_greater place_order place_total p b (sym (place_total.congr a p b is) ∙ less))) (omega arith)
        go Greater is =
            subst (λ (r : Ordering). 2 ≤ ordering_index r)
            (sym (turned_greater place_order place_total p b (place_total.trans p a b (turned_less place_order place_total a p is) less))) (omega arith)

  below_get : (q : Place) (xs : List X) (j : ℕ) (d : X) → T (below_all place_order q (map stood xs)) → j < length xs → place_order q (stood (get_or xs j d)).0 ≡ Less
  below_get q [] j d below bound = absurd (omega arith)
  below_get q (x ∷ xs) zero d below bound = let parts = both_hold _ _ below in is_less (place_order q (stood x).0) parts.0
  below_get q (x ∷ xs) (suc j) d below bound = let parts = both_hold _ _ below in below_get q xs j d parts.1 (omega arith)

  orders_rise : (p : Place) (xs : List X) → T (is_sorted place_order (map stood xs)) → IsNonDecreasingBy (λ y. ordering_index (place_order (stood y).0 p)) xs
  orders_rise p [] sorted i j d up bound = absurd (omega arith)
  orders_rise p (x ∷ xs) sorted zero zero d up bound = omega arith
  orders_rise p (x ∷ xs) sorted zero (suc j) d up bound =
      let parts = both_hold _ _ sorted in
      index_rises p (stood x).0 (stood (get_or xs j d)).0 (below_get (stood x).0 xs j d parts.0 (omega arith))
  orders_rise p (x ∷ xs) sorted (suc i) zero d up bound = absurd (omega arith)
  orders_rise p (x ∷ xs) sorted (suc i) (suc j) d up bound = let parts = both_hold _ _ sorted in orders_rise p xs parts.1 i j d (omega arith) (omega arith)

  pub number_at : (p : Place) (xs : List X) (r : Result ℕ ℕ) → IsSearchInRange r (length xs) → IsBinarySearchResult (λ y. place_order (stood y).0 p) xs r
      → IfOk r (λ n. (n < length xs) × StandsAt place_order p (map stood xs) n)
  number_at p xs (Ok n) bound is = (bound, held_stands p xs n bound is)
  number_at p xs (Err n) bound is = tt

  pub number_between : (p : Place) (xs : List X) (r : Result ℕ ℕ) → IsSearchInRange r (length xs) → IsBinarySearchResult (λ y. place_order (stood y).0 p) xs r
      → T (is_sorted place_order (map stood xs)) → IfErr r (λ n. (n ≤ length xs) × StandsBetween place_order p (map stood xs) n)
  number_between p xs (Ok n) bound is sorted = tt
  number_between p xs (Err n) bound is sorted = let point = is (orders_rise p xs sorted) in (bound, within_between p xs n bound point.0 point.1)

  -- a place behind all

  pub none_before : (p : Place) (xs : List X) (r : Option (Bor X)) → r ≡ None → IsGetResult xs 0 (length xs - 1) r → StandsBetween place_order p (map stood xs) (length xs)
  none_before p [] r none item = tt
  none_before p (x ∷ xs) r none item = absurd (let f : false ≡ true = sym (ap is_some none) ∙ item.2 (omega arith) in cc)

  pub last_before : (p : Place) (xs : List X) (r : Option (Bor X)) (last : Bor X) → T (is_sorted place_order (map stood xs)) → r ≡ Some last
      → IsGetResult xs 0 (length xs - 1) r → place_order (stood last.now).0 p ≡ Less → StandsBetween place_order p (map stood xs) (length xs)
  last_before p xs r last sorted some item less =
      let held = subst (λ (o : Option (Bor X)). MatchOption o (length xs ≤ 0) (λ x. (0 < length xs) × HoldsAt (λ y. x.now ≡ y) xs (length xs - 1))) some item.3 in
      within_between p xs (length xs) (omega arith) (λ k d low high. before held k d high) (λ k d low high. absurd (omega arith))
    where
      before : (0 < length xs) × HoldsAt (λ y. last.now ≡ y) xs (length xs - 1) → (k : ℕ) (d : X) → k < length xs → place_order (stood (get_or xs k d)).0 p ≡ Less
      before held k d below =
          let up = orders_rise p xs sorted k (length xs - 1) d (omega arith) (omega (arith, held.0)) in
          let end : ordering_index (place_order (stood (get_or xs (length xs - 1) d)).0 p) ≡ 0 =
          ap (λ (y : X). ordering_index (place_order (stood y).0 p)) (sym (held.1 d)) ∙ ap ordering_index less in
          least (place_order (stood (get_or xs k d)).0 p) (omega (arith, up, end))

  -- the number where a test ends

  module _ (test : Place × Y → Truth) (falls : (a b : Place × Y) → place_order a.0 b.0 ≡ Less → test b ≡ true → test a ≡ true) where
    pub tests_fall : (xs : List X) → T (is_sorted place_order (map stood xs)) → IsPartitionedBy (λ y. test (stood y)) xs
    tests_fall [] sorted i j d up bound is = absurd (omega arith)
    tests_fall (x ∷ xs) sorted zero zero d up bound is = is
    tests_fall (x ∷ xs) sorted zero (suc j) d up bound is =
        let parts = both_hold _ _ sorted in
        falls (stood x) (stood (get_or xs j d)) (below_get (stood x).0 xs j d parts.0 (omega arith)) is
    tests_fall (x ∷ xs) sorted (suc i) zero d up bound is = absurd (omega arith)
    tests_fall (x ∷ xs) sorted (suc i) (suc j) d up bound is = let parts = both_hold _ _ sorted in tests_fall xs parts.1 i j d (omega arith) (omega arith) is

  pub parted_at : (test : Place × Y → Truth) (xs : List X) (n : ℕ) → n ≤ length xs → IsPartitionPoint (λ y. test (stood y) ≡ true) (λ y. test (stood y) ≡ false) xs n
      → IsParted test (map stood xs) n
  parted_at test [] zero bound point = tt
  parted_at test [] (suc n) bound point = absurd (omega arith)
  parted_at test (x ∷ xs) zero bound point = (
    point.1 zero x (omega arith) (omega arith),
    parted_at test xs zero (omega arith) (λ k d low high. absurd (omega arith), λ k d low high. point.1 (suc k) d (omega arith) (omega arith)),
  )
  parted_at test (x ∷ xs) (suc n) bound point = (
    point.0 zero x (omega arith) (omega arith),
    parted_at test xs n (omega arith) (λ k d low high. point.0 (suc k) d (omega arith) (omega arith), λ k d low high. point.1 (suc k) d (omega arith) (omega arith)),
  )

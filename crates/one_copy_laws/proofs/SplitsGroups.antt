-- The kept answer of a list of answers that go up is that of the largest group by numbers, and of two as large of the one with the lowest.
use Rattle.std.proofs.Common.{◌≡◌, ◌≢◌, ℕ, zero, suc, ◌+◌, ◌<◌, ◌≤◌, Bool, true, false, List, [], ◌∷◌, refl, sym, ap, ◌∙◌, subst, arith, inl, inr}
use Rattle.std.specs.Prelude.{◌&&◌, ◌||◌, ◌==◌, not, nat_le, cond, if◌then◌else◌, find, count_by, Option, Some, None}
use Rattle.std.specs.List.{list_all}
use Rattle.std.proofs.lemmas.Bool.Decides.{leb_tells, eqb_tells}
use Rattle.std.proofs.lemmas.List.Sums.{sum_by-cons}
use Rattle.pool_base.specs.Sets.{has}
use Rattle.pool_base.specs.declared.backend_set.BackendSet.{BackendSet}
use Rattle.backend_trait.specs.declared.answer.Answer.{Answer}
use Rattle.write_path.specs.Slots.{is_taken}
use Rattle.write_path.specs.Kept.{IsHolder, count_below, is_some_like, is_like, size_of, size_at}
use Rattle.session_machine.specs.declared.machine.Heard.{Heard}
use Rattle.session_machine.specs.Answers.{is_same, counts, is_in_group, group_size, is_no_larger, is_largest, is_kept, kept}
use Rattle.one_copy_model.specs.Deaths.{heard_from}
use Rattle.one_copy_model.specs.Chains.{AreAbove, IsRising}
use Rattle.one_copy_model.specs.Statement.{answers_among}
use Rattle.one_copy_model.proofs.Places.{same_or_other}
use Rattle.one_copy_model.proofs.Livings.{and_true}
use Rattle.one_copy_laws.proofs.LooksEndings.{IsAmong, found_among, above_of, among_heard, same_test}
use Rattle.one_copy_laws.proofs.LooksOpeningLaw.{heard_among}
use Rattle.one_copy_laws.proofs.SplitsItself.{same_itself}

-- counting by numbers
count_same : (p q : ℕ → Bool) (n : ℕ) → ((k : ℕ) → k < n → q k ≡ p k) → count_below n q ≡ count_below n p
count_same p q zero same = refl
count_same p q (suc n) same =
    ap (λ (k : ℕ). k + (if q n then 1 else 0)) (count_same p q n (λ k less. same k (let z : k < suc n = omega (arith, less) in z)))
    ∙ ap (λ (v : Bool). count_below n p + (if v then 1 else 0)) (same n (let z : n < suc n = omega arith in z))

turned : (a b c : ℕ) → (a + b) + c ≡ (a + c) + b
turned a b c = omega arith

count_put : (p q : ℕ → Bool) (i n : ℕ) → ((k : ℕ) → k ≢ i → q k ≡ p k) → p i ≡ false → i < n → count_below n q ≡ count_below n p + (if q i then 1 else 0)
count_put p q i zero others none less = absurd (omega (arith, less))
count_put p q i (suc n) others none less = elim (same_or_other n i) [
  | inl e ↦
      ap (λ (k : ℕ). k + (if q n then 1 else 0)) (count_same p q n (λ k below. others k (λ is. omega (arith, is, e, below))))
      ∙ ap (λ (k : ℕ). count_below n p + (if q k then 1 else 0)) e
      ∙ sym (ap (λ (k : ℕ). k + (if q i then 1 else 0)) (ap (λ (k : ℕ). count_below n p + (if p k then 1 else 0)) e ∙ ap (λ (v : Bool). count_below n p + (if v then 1 else 0)) none ∙ plus_none (count_below n p)))
  | inr other ↦
      ap (λ (k : ℕ). k + (if q n then 1 else 0)) (count_put p q i n others none (let z : i < n = omega (arith, less, other) in z))
      ∙ ap (λ (v : Bool). (count_below n p + (if q i then 1 else 0)) + (if v then 1 else 0)) (others n other)
      ∙ turned (count_below n p) (if q i then 1 else 0) (if p n then 1 else 0)
]
  where
    plus_none : (k : ℕ) → k + 0 ≡ k
    plus_none k = omega arith

count_none : (p : ℕ → Bool) (n : ℕ) → ((k : ℕ) → p k ≡ false) → count_below n p ≡ 0
count_none p zero none = refl
count_none p (suc n) none = ap (λ (v : Bool). count_below n p + (if v then 1 else 0)) (none n) ∙ ap (λ (k : ℕ). k + 0) (count_none p n none)

-- lists of answers
above_none : (b : ℕ) (hs : List Heard) → AreAbove b hs → heard_from hs b ≡ None
above_none b [] above = refl
above_none b (x ∷ hs) above =
    let less : b < x.b.number = above.0 in
    ap (λ v. if v then Some x.answer else heard_from hs b) (other_number x.b.number b (λ e. omega (arith, e, less))) ∙ above_none b hs above.1
  where
    other_number : (k j : ℕ) → k ≢ j → (k == j) ≡ false
    other_number k j e = elim (eqb_tells k j) [ inl p ↦ absurd (e p.1) | inr p ↦ p.0 ]

all_at : (f : Heard → Bool) (xs : List Heard) (x : Heard) → list_all f xs ≡ true → IsAmong x xs → f x ≡ true
all_at f [] x e among = absurd among
all_at f (y ∷ ys) x e (inl is) = ap f (sym is) ∙ (and_true (f y) (list_all f ys) e).0
all_at f (y ∷ ys) x e (inr rest) = all_at f ys x (and_true (f y) (list_all f ys) e).1 rest

some_not : (f : Heard → Bool) (xs : List Heard) → list_all f xs ≡ false → (y : Heard) × IsAmong y xs × (f y ≡ false)
some_not f [] e = absurd (let z : true ≡ false = e in cc)
some_not f (x ∷ xs) e = by (f x) refl (some_not f xs) e
  where
    by : (v : Bool) → f x ≡ v → (list_all f xs ≡ false → (y : Heard) × IsAmong y xs × (f y ≡ false)) → (v && list_all f xs) ≡ false → (y : Heard) × IsAmong y (x ∷ xs) × (f y ≡ false)
    by true is rest e = let r = rest e in (r.0, inr r.1, r.2)
    by false is rest e = (x, inl refl, is)

abbrev one_if : Bool → ℕ
one_if v = cond v 1 0

count_some : (f : Heard → Bool) (xs : List Heard) (x : Heard) → IsAmong x xs → f x ≡ true → 1 ≤ count_by f xs
count_some f [] x among is = absurd among
count_some f (y ∷ ys) x (inl same) is =
    let one : ◌≡◌ {A = ℕ} (one_if (f y)) 1 = ap one_if (ap f same ∙ is) in
    let all : count_by f (y ∷ ys) ≡ one_if (f y) + count_by f ys = sum_by-cons (λ (z : Heard). one_if (f z)) y ys in
    omega (arith, one, all)
count_some f (y ∷ ys) x (inr rest) is =
    let more : 1 ≤ count_by f ys = count_some f ys x rest is in
    let all : count_by f (y ∷ ys) ≡ one_if (f y) + count_by f ys = sum_by-cons (λ (z : Heard). one_if (f z)) y ys in
    omega (arith, more, all)

-- of answers that go up the first that is found is the lowest
pub first_lowest : (p : Heard → Bool) (xs : List Heard) (y x : Heard) → IsRising xs → find p xs ≡ Some y → IsAmong x xs → p x ≡ true → y.b.number ≤ x.b.number
first_lowest p [] y x rising e among is = absurd among
first_lowest p (h ∷ hs) y x rising e among is = by (p h) refl (λ f a. first_lowest p hs y x rising.1 f a is) e among
  where
    by : (v : Bool) → p h ≡ v → (find p hs ≡ Some y → IsAmong x hs → y.b.number ≤ x.b.number) → cond v (Some h) (find p hs) ≡ Some y → IsAmong x (h ∷ hs) → y.b.number ≤ x.b.number
    by true at rest f (inl same) = let one : h ≡ y = (let z : Some h ≡ Some y = f in cc) in subst (λ (k : Heard). k.b.number ≤ x.b.number) one (subst (λ (k : Heard). h.b.number ≤ k.b.number) same (let z : h.b.number ≤ h.b.number = omega arith in z))
    by true at rest f (inr more) =
        let one : h ≡ y = (let z : Some h ≡ Some y = f in cc) in
        let less : h.b.number < x.b.number = above_of h.b.number hs x rising.0 more in
        subst (λ (k : Heard). k.b.number ≤ x.b.number) one (let z : h.b.number ≤ x.b.number = omega (arith, less) in z)
    by false at rest f (inl same) = absurd (let z : false ≡ true = sym (ap p (sym same) ∙ at) ∙ is in cc)
    by false at rest f (inr more) = rest f more

no_more : (c larger : Bool) → c ≡ true → (not c || larger) ≡ true → larger ≡ true
no_more true larger c e = e
no_more false larger c e = absurd (let z : false ≡ true = c in cc)

no_less : (c larger : Bool) → (not c || larger) ≡ false → (c ≡ true) × (larger ≡ false)
no_less true larger e = (refl, e)
no_less false larger e = absurd (let z : true ≡ false = e in cc)

at_most : (a b : ℕ) → nat_le a b ≡ true → a ≤ b
at_most a b e = elim (leb_tells a b) [ inl q ↦ q.1 | inr q ↦ absurd (let z : false ≡ true = sym q.0 ∙ e in cc) ]

more_than : (a b : ℕ) → nat_le a b ≡ false → b < a
more_than a b e = elim (leb_tells a b) [ inl q ↦ absurd (let z : true ≡ false = sym q.0 ∙ e in cc) | inr q ↦ q.1 ]

module _ (set : BackendSet) where
  abbrev view : List Heard → ℕ → Option Answer
  view hs = answers_among set hs

  abbrev likes : List Heard → Answer → ℕ → Bool
  likes hs a = is_like is_same (view hs) a

  none_likes : (a : Answer) (k : ℕ) → likes [] a k ≡ false
  none_likes a k = by (has set.bits k)
    where
      by : (v : Bool) → is_some_like is_same a (if v then None else None) ≡ false
      by true = refl
      by false = refl

  own_like : (x : Heard) (a : Answer) (v : Bool) → is_some_like is_same a (if v then Some x.answer else None) ≡ (v && is_same x.answer a)
  own_like x a true = refl
  own_like x a false = refl

  ones : (v : Bool) → ◌≡◌ {A = ℕ} (if v then 1 else 0) (one_if v)
  ones true = refl
  ones false = refl

  absent_like : (a : Answer) (v : Bool) (found : Option Answer) → found ≡ None → is_some_like is_same a (if v then found else None) ≡ false
  absent_like a true found e = ap (is_some_like is_same a) e
  absent_like a false found e = refl

  -- a group by the list is the group by numbers
  pub sizes : (hs : List Heard) (a : Answer) → IsRising hs → group_size set.bits hs a ≡ count_below 8 (likes hs a)
  sizes [] a rising = sym (count_none (likes [] a) 8 (none_likes a))
  sizes (x ∷ hs) a rising =
      let p : ℕ → Bool = likes hs a in
      let q : ℕ → Bool = likes (x ∷ hs) a in
      let i : ℕ = x.b.number in
      let below : i < 8 = x.b.below_8 in
      let others : (k : ℕ) → k ≢ i → q k ≡ p k = λ k other. ap (λ v. is_some_like is_same a (if has set.bits k then (if v then Some x.answer else heard_from hs k) else None)) (apart i k (λ e. other (sym e))) in
      let none : p i ≡ false = absent_like a (has set.bits i) (heard_from hs i) (above_none i hs rising.0) in
      let mine : q i ≡ is_in_group set.bits a x =
      ap (λ v. is_some_like is_same a (if has set.bits i then (if v then Some x.answer else heard_from hs i) else None)) (same_test i) ∙ own_like x a (has set.bits i) in
      let all : count_by (is_in_group set.bits a) (x ∷ hs) ≡ one_if (is_in_group set.bits a x) + count_by (is_in_group set.bits a) hs = sum_by-cons (λ (z : Heard). one_if (is_in_group set.bits a z)) x hs in
      let put : count_below 8 q ≡ count_below 8 p + (if q i then 1 else 0) = count_put p q i 8 others none below in
      let one : ◌≡◌ {A = ℕ} (if q i then 1 else 0) (one_if (is_in_group set.bits a x)) = ones (q i) ∙ ap one_if mine in
      let rest : count_by (is_in_group set.bits a) hs ≡ count_below 8 p = sizes hs a rising.1 in
      omega (arith, all, put, one, rest)
    where
      apart : (k j : ℕ) → k ≢ j → (k == j) ≡ false
      apart k j e = elim (eqb_tells k j) [ inl p ↦ absurd (e p.1) | inr p ↦ p.0 ]

  module _ (hs : List Heard) (rising : IsRising hs) where
    pub view_at : (x : Heard) → IsAmong x hs → counts set.bits x ≡ true → view hs x.b.number ≡ Some x.answer
    view_at x among c = ap (λ (v : Bool). if v then heard_from hs x.b.number else None) c ∙ among_heard hs x rising among

    size_is : (x : Heard) → IsAmong x hs → counts set.bits x ≡ true → size_at is_same (view hs) x.b.number ≡ group_size set.bits hs x.answer
    size_is x among c = ap (size_of is_same (view hs)) (view_at x among c) ∙ sym (sizes hs x.answer rising)

    -- whoever has an answer is among those that are heard, and counts
    seen_at : (k : ℕ) (a : Answer) → view hs k ≡ Some a → (x : Heard) × IsAmong x hs × (x.b.number ≡ k) × (counts set.bits x ≡ true)
    seen_at k a e = by (has set.bits k) refl e
      where
        by : (v : Bool) → has set.bits k ≡ v → (if v then heard_from hs k else None) ≡ Some a → (x : Heard) × IsAmong x hs × (x.b.number ≡ k) × (counts set.bits x ≡ true)
        by true is f = let x = heard_among hs k a f in (x.0, x.1, x.2, ap (has set.bits) x.2 ∙ is)
        by false is f = absurd (let z : None ≡ Some a = f in cc)

    module _ (best : Heard) (found : kept set.bits hs ≡ Some best) where
      chosen : (is_kept set.bits hs best ≡ true) × IsAmong best hs
      chosen = found_among (is_kept set.bits hs) hs best found

      both : (counts set.bits best ≡ true) × (is_largest set.bits hs (group_size set.bits hs best.answer) ≡ true)
      unfolding is_kept
      both = and_true (counts set.bits best) (is_largest set.bits hs (group_size set.bits hs best.answer)) chosen.0

      pub best_counts : counts set.bits best ≡ true
      best_counts = both.0

      pub best_among : IsAmong best hs
      best_among = chosen.1

      most : (x : Heard) → IsAmong x hs → counts set.bits x ≡ true → group_size set.bits hs x.answer ≤ group_size set.bits hs best.answer
      unfolding is_no_larger
      most x among c =
          at_most (group_size set.bits hs x.answer) (group_size set.bits hs best.answer)
          (no_more (counts set.bits x) (nat_le (group_size set.bits hs x.answer) (group_size set.bits hs best.answer)) c
          (all_at (is_no_larger set.bits hs (group_size set.bits hs best.answer)) hs x both.1 among))

      some : 1 ≤ group_size set.bits hs best.answer
      some = count_some (is_in_group set.bits best.answer) hs best best_among (ap (λ (v : Bool). v && is_same best.answer best.answer) best_counts ∙ same_itself best.answer)

      best_size : size_at is_same (view hs) best.b.number ≡ group_size set.bits hs best.answer
      best_size = size_is best best_among best_counts

      largest_at : (k : ℕ) (found_at : Option Answer) → view hs k ≡ found_at → size_at is_same (view hs) k ≤ size_at is_same (view hs) best.b.number
      largest_at k None e =
          let none : size_at is_same (view hs) k ≡ 0 = ap (size_of is_same (view hs)) e in omega (arith, none)
      largest_at k (Some a) e =
          let x = seen_at k a e in
          let mine : size_at is_same (view hs) k ≡ group_size set.bits hs x.0.answer = ap (size_at is_same (view hs)) (sym x.2) ∙ size_is x.0 x.1 x.3 in
          let less : group_size set.bits hs x.0.answer ≤ group_size set.bits hs best.answer = most x.0 x.1 x.3 in
          let own : size_at is_same (view hs) best.b.number ≡ group_size set.bits hs best.answer = best_size in
          omega (arith, mine, less, own)

      -- an answer below the kept one is in a smaller group
      smaller : (x : Heard) → IsAmong x hs → counts set.bits x ≡ true → x.b.number < best.b.number → group_size set.bits hs x.answer < group_size set.bits hs best.answer
      unfolding is_no_larger is_kept
      smaller x among c below =
          let not_it : is_largest set.bits hs (group_size set.bits hs x.answer) ≡ false = not_kept (is_largest set.bits hs (group_size set.bits hs x.answer)) refl in
          let y = some_not (is_no_larger set.bits hs (group_size set.bits hs x.answer)) hs not_it in
          let n = no_less (counts set.bits y.0) (nat_le (group_size set.bits hs y.0.answer) (group_size set.bits hs x.answer)) y.2 in
          let more : group_size set.bits hs x.answer < group_size set.bits hs y.0.answer = more_than (group_size set.bits hs y.0.answer) (group_size set.bits hs x.answer) n.1 in
          let top : group_size set.bits hs y.0.answer ≤ group_size set.bits hs best.answer = most y.0 y.1 n.0 in
          omega (arith, more, top)
        where
          kept_too : is_largest set.bits hs (group_size set.bits hs x.answer) ≡ true → is_kept set.bits hs x ≡ true
          kept_too is = ap (λ (v : Bool). v && is_largest set.bits hs (group_size set.bits hs x.answer)) c ∙ is

          not_kept : (v : Bool) → is_largest set.bits hs (group_size set.bits hs x.answer) ≡ v → is_largest set.bits hs (group_size set.bits hs x.answer) ≡ false
          not_kept false is = is
          not_kept true is =
              let low : best.b.number ≤ x.b.number = first_lowest (is_kept set.bits hs) hs best x rising found among (kept_too is) in
              absurd (omega (arith, low, below))

      lowest_at : (k : ℕ) → k < best.b.number → (found_at : Option Answer) → view hs k ≡ found_at → size_at is_same (view hs) k < size_at is_same (view hs) best.b.number
      lowest_at k below None e =
          let none : size_at is_same (view hs) k ≡ 0 = ap (size_of is_same (view hs)) e in
          let own : size_at is_same (view hs) best.b.number ≡ group_size set.bits hs best.answer = best_size in
          let one : 1 ≤ group_size set.bits hs best.answer = some in
          omega (arith, none, own, one)
      lowest_at k below (Some a) e =
          let x = seen_at k a e in
          let mine : size_at is_same (view hs) k ≡ group_size set.bits hs x.0.answer = ap (size_at is_same (view hs)) (sym x.2) ∙ size_is x.0 x.1 x.3 in
          let less : group_size set.bits hs x.0.answer < group_size set.bits hs best.answer = smaller x.0 x.1 x.3 (subst (λ (n : ℕ). n < best.b.number) (sym x.2) below) in
          let own : size_at is_same (view hs) best.b.number ≡ group_size set.bits hs best.answer = best_size in
          omega (arith, mine, less, own)

      pub holder : IsHolder is_same (view hs) best.b.number
      holder = record {
        has_one = ap is_taken (view_at best best_among best_counts);
        largest = λ k below. largest_at k (view hs k) refl;
        lowest = λ k below. lowest_at k below (view hs k) refl;
      }

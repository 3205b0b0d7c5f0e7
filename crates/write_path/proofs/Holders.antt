-- The first place of the largest number.
use Rattle.std.proofs.Common.{◌≡◌, ℕ, zero, suc, ◌+◌, ◌<◌, ◌≤◌, Bool, true, false, if◌then◌else◌, Option, Some, None, refl, sym, ap, ◌∙◌, inl, inr, arith}
use Rattle.std.proofs.lemmas.Bool.Decides.{eqb_tells}
use Rattle.write_path.specs.Slots.{has_answer, is_taken}
use Rattle.write_path.specs.Kept.{count_below, is_like, is_some_like, size_of, size_at, IsHolder}

-- the largest below n, and the first place of it
pub record IsBest (f : ℕ → ℕ) (best size n : ℕ) : Type 0 where
  pub place : best < 8
  pub bound : (k : ℕ) → k < n → f k ≤ size
  pub first : (k : ℕ) → k < best → f k < size
  pub size_is : 0 < size → f best ≡ size
  pub none : size ≡ 0 → best ≡ 0

-- one that passes is counted
counts_one : (n : ℕ) (p : ℕ → Bool) (k : ℕ) → k < n → p k ≡ true → 1 ≤ count_below n p
counts_one zero p k below is = absurd (omega arith)
counts_one (suc n) p k below is = elim (eqb_tells k n) [
  | inl e ↦ let t : p n ≡ true = ap p (sym e.1) ∙ is in last (p n) t
  | inr e ↦ more (p n) (counts_one n p k (omega (arith, e.1)) is)
]
  where
    last : (b : Bool) → b ≡ true → 1 ≤ count_below n p + (if b then 1 else 0)
    last true t = omega arith
    last false t = absurd (cc)

    more : (b : Bool) → 1 ≤ count_below n p → 1 ≤ count_below n p + (if b then 1 else 0)
    more true t = omega arith
    more false t = omega arith

module _ {A : Type 0} (eq : A → A → Bool) (self : (x : A) → eq x x ≡ true) (view : ℕ → Option A) where
  -- a backend with an answer is in its own group
  in_own : (k : ℕ) → k < 8 → (o : Option A) → view k ≡ o → is_taken o ≡ true → 1 ≤ size_of eq view o
  in_own k below None e t = absurd (cc)
  in_own k below (Some a) e t = counts_one 8 (is_like eq view a) k below (ap (is_some_like eq a) e ∙ self a)

  one_if : (o : Option A) → 1 ≤ size_of eq view o → is_taken o ≡ true
  one_if None large = absurd (omega arith)
  one_if (Some a) large = refl

  pub holds : (best size n : ℕ) → IsBest (size_at eq view) best size n → 8 ≤ n → (k : ℕ) → k < 8 → has_answer view k ≡ true → IsHolder eq view best
  holds best size n b all k below has =
      let one : 1 ≤ size_at eq view k = in_own k below (view k) refl has in
      let bound : size_at eq view k ≤ size = b.bound k (omega arith) in
      let is : size_at eq view best ≡ size = b.size_is (omega arith) in
      record {
        has_one = one_if (view best) (omega (arith, is));
        largest = λ j j_below. omega (arith, is, b.bound j (omega arith));
        lowest = λ j j_below. omega (arith, is, b.first j j_below);
      }

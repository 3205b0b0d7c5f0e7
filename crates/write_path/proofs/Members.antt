-- A set that grows by the next number that passes.
use Rattle.std.proofs.Common.{◌≡◌, ℕ, zero, suc, ◌+◌, ◌<◌, Bool, true, false, ◌&&◌, ◌||◌, nat_eq, nat_lt, refl, sym, ap, ◌∙◌, inl, inr, arith}
use Rattle.std.proofs.lemmas.Bool.Decides.{nat_tests, eqb_tells}
use Rattle.pool_base.specs.Sets.{has, with_one}
use Rattle.pool_base.proofs.Finite.{at_each, all_below}

same_bool : Bool → Bool → Bool
same_bool true b = b
same_bool false true = false
same_bool false false = true

same_bool_is : (a b : Bool) → same_bool a b ≡ true → a ≡ b
unfolding same_bool
same_bool_is true b e = sym e
same_bool_is false true e = absurd (cc)
same_bool_is false false e = refl

both : (a b : Bool) → (a && b) ≡ true → (a ≡ true) × (b ≡ true)
both true b e = (refl, e)
both false b e = absurd (cc)

pub at_below : (n : ℕ) (p : ℕ → Bool) → all_below n p ≡ true → (k : ℕ) → k < n → p k ≡ true
at_below zero p e k h = absurd (omega arith)
at_below (suc n) p e k h =
    let t = both (p n) (all_below n p) e in
    elim (eqb_tells k n) [
      | inl same ↦ ap p same.1 ∙ t.0
      | inr other ↦ at_below n p t.1 k (omega (arith, other.1))
    ]

abbrev joins : ℕ → ℕ → Bool
joins s b = all_below 8 (λ k. same_bool (has (with_one s b) k) (nat_eq k b || has s k))

pub with_has : (s b k : ℕ) → s < 256 → b < 8 → k < 8 → has (with_one s b) k ≡ (nat_eq k b || has s k)
unfolding same_bool
with_has s b k hs hb hk = same_bool_is _ _ (at_below 8 (λ j. same_bool (has (with_one s b) j) (nat_eq j b || has s j)) (at_each joins refl s b hs hb) k hk)

pub grown : (s t at : ℕ) (d : ℕ → Bool) → ((k : ℕ) → k < 8 → has t k ≡ (nat_eq k at || has s k)) → d at ≡ true → ((k : ℕ) → k < 8 → has s k ≡ (nat_lt k at && d k)) → (k : ℕ) → k < 8 → has t k ≡ (nat_lt k (at + 1) && d k)
grown s t at d joined is kept k hk = joined k hk ∙ elim (eqb_tells k at) [
  | inl e ↦
      let below : nat_lt k (at + 1) ≡ true = grind (arith, nat_tests, e.1) in
      let passes : d k ≡ true = ap d e.1 ∙ is in
      rw (e.0, below, passes) refl
  | inr e ↦
      let same : nat_lt k (at + 1) ≡ nat_lt k at = grind (arith, nat_tests, e.1) in
      rw (e.0, same) (kept k hk)
]

pub left_out : (s at : ℕ) (d : ℕ → Bool) → d at ≡ false → ((k : ℕ) → k < 8 → has s k ≡ (nat_lt k at && d k)) → (k : ℕ) → k < 8 → has s k ≡ (nat_lt k (at + 1) && d k)
left_out s at d is kept k hk = kept k hk ∙ elim (eqb_tells k at) [
  | inl e ↦
      let not_below : nat_lt k at ≡ false = grind (arith, nat_tests, e.1) in
      let below : nat_lt k (at + 1) ≡ true = grind (arith, nat_tests, e.1) in
      let fails : d k ≡ false = ap d e.1 ∙ is in
      rw (not_below, below, fails) refl
  | inr e ↦
      let same : nat_lt k at ≡ nat_lt k (at + 1) = grind (arith, nat_tests, e.1) in
      rw same refl
]

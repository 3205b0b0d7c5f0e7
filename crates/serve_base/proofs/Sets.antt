-- The set of those that are to be attached grows by one number after another.
use Rattle.std.proofs.Common.{◌≡◌, ◌<◌, ◌≤◌, ◌+◌, ◌/◌, ◌%◌, ◌^◌, ◌==◌, ℕ, Bool, true, false, refl, ap, sym, subst, ◌∙◌, if◌then◌else◌, arith}
use Rattle.std.proofs.lemmas.Bool.Decides.{nat_tests}
use Rattle.std.proofs.Math.Nat.{zero-div}
use Rattle.pool_base.specs.Sets.{has}
use Rattle.serve_base.specs.Start.{IsAttachedUpTo}

pub none_in : (b : ℕ) → has 0 b ≡ false
none_in b = ap (λ (n : ℕ). (n % 2) == 1) (zero-div (2 ^ b))

pub none_yet : (is : ℕ → Bool) → IsAttachedUpTo is 0 0
none_yet is = record { below = λ b l. absurd (omega arith); above = λ b l m. none_in b }

pub one_more_in : (is : ℕ → Bool) (old new n : ℕ) → IsAttachedUpTo is old n → ((c : ℕ) → c < 8 → has new c ≡ (if c == n then is n else has old c)) → n < 8 → IsAttachedUpTo is new (n + 1)
one_more_in is old new n up next few = record { below = λ c l. below c l (c == n) refl; above = λ c l m. above c l m }
  where
    below : (c : ℕ) → c < n + 1 → (t : Bool) → (c == n) ≡ t → has new c ≡ is c
    below c l true e =
        let same : c ≡ n = grind (arith, nat_tests) in
        next c (omega arith) ∙ (ap (λ (t : Bool). if t then is n else has old c) e ∙ ap is (sym same))
    below c l false e =
        let less : c < n = grind (arith, nat_tests) in
        next c (omega arith) ∙ (ap (λ (t : Bool). if t then is n else has old c) e ∙ up.below c less)

    above : (c : ℕ) → c < 8 → n + 1 ≤ c → has new c ≡ false
    above c l m =
        let other : (c == n) ≡ false = grind (arith, nat_tests) in
        next c l ∙ (ap (λ (t : Bool). if t then is n else has old c) other ∙ up.above c l (omega arith))

-- a set without a number is that set
pub none_more : (bits b : ℕ) → has bits b ≡ false → (c : ℕ) → c < 8 → has bits c ≡ (if c == b then false else has bits c)
none_more bits b none c l = go (c == b) refl
  where
    go : (t : Bool) → (c == b) ≡ t → has bits c ≡ (if t then false else has bits c)
    go true e =
        let same : c ≡ b = grind (arith, nat_tests) in
        ap (has bits) same ∙ none
    go false e = refl

-- The number of up to ten digits stays small.
use Rattle.std.proofs.Common.{Bool, true, List, [], ◌∷◌, None, length, take, drop, slice_index, if◌then◌else◌, ◌≡◌, ◌<◌, ◌≤◌, ◌+◌, ◌-◌, ◌*◌, ◌^◌, ℕ, suc, ap, sym, subst, ◌∙◌, arith}
use Rattle.std.specs.Char.{is_ascii_digit}
use Rattle.pool_config.specs.Value.{number_after}
use Rattle.serve_base.proofs.Cuts.{tail_is}
use Rattle.std.proofs.lemmas.Bool.Decides.{nat_tests}
use Rattle.std.proofs.Math.Nat.{pow-suc}

pub one_more : (n d k j : ℕ) → n < 10 ^ k → d < 10 → j ≡ k + 1 → n * 10 + d < 10 ^ j
one_more n d k j h l e =
    let s : 10 ^ (suc k) ≡ 10 * 10 ^ k = rw pow-suc (omega arith) in
    let same : j ≡ suc k = omega arith in
    subst (λ (i : ℕ). n * 10 + d < 10 ^ i) (sym same) (omega arith)

pub number_step : (n : ℕ) (left : List ℕ) → 1 ≤ length left → is_ascii_digit (slice_index left 0) ≡ true
    → number_after (n * 10 + (slice_index left 0 - 48)) (take (length left - 1) (drop 1 left)) ≡ number_after n left
number_step n [] some digit = absurd (omega arith)
number_step n (d ∷ rest) some digit =
    ap (number_after (n * 10 + (d - 48))) (tail_is d rest)
    ∙ sym (ap (λ (t : Bool). if t then number_after (n * 10 + (d - 48)) rest else None) digit)

pub digit_small : (d : ℕ) → is_ascii_digit d ≡ true → d - 48 < 10
digit_small d h = grind (arith, nat_tests)

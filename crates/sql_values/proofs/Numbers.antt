-- Quotients and rests of numbers of 64 bits.
use Rattle.std.proofs.Common.{◌≡◌, ℤ, pos, ◌<◌, ◌^◌, ap, ◌∙◌, refl, arith}
use Rattle.std.specs.Prelude.{negsuc, neg_ℤ, ◌≢◌, int_div, int_rem, FitsSigned, Option, Some, None, Bool as Truth, false, Ok, Err, zero, suc, if◌then◌else◌}
use Rattle.std.specs.Int.{w64, CanDivide, IsNonZero}
use Rattle.std.specs.Option.{SomeIff}
use Rattle.std.proofs.Math.Nat.{mod-one}
use lib.Signed.{mag_rem}
use Rattle.sql_values.specs.Outcome.{by_zero}
use Rattle.sql_values.specs.Arithmetic.{is_zero, unless_zero}

not_zero : (b : ℤ) → b ≢ pos 0 → is_zero b ≡ false
not_zero (pos zero) other = absurd (other refl)
not_zero (pos (suc n)) other = refl
not_zero (negsuc n) other = refl

-- a divisor that is not 0
pub by_other : (b n : ℤ) → b ≢ pos 0 → unless_zero b n ≡ Ok n
by_other b n other = ap (λ (t : Truth). if t then Err by_zero else Ok n) (not_zero b other)

non_zero : (b : ℤ) → FitsSigned w64 b → b ≢ pos 0 → IsNonZero w64 b
non_zero (pos zero) fits other = absurd (other refl)
non_zero (pos (suc n)) fits other = omega arith
non_zero (negsuc n) fits other = let below : n < 2 ^ 63 = fits.sfits in omega arith

-- what a quotient gives, as what a number gives that fits
pub quotient_given : (given : Option ℤ) (a b : ℤ) → FitsSigned w64 b → b ≢ pos 0 → SomeIff given (CanDivide w64 a b) (int_div a b)
    → SomeIff given (FitsSigned w64 (int_div a b)) (int_div a b)
quotient_given None a b fits other none = λ holds. none (non_zero b fits other, holds)
quotient_given (Some x) a b fits other some = (some.0.1, some.1)

rest_of_one : (a : ℤ) → int_rem a (negsuc 0) ≡ pos 0
rest_of_one (pos a) = ap pos (mod-one a)
rest_of_one (negsuc a) = ap (λ n. neg_ℤ (pos n)) (mod-one (suc a))

-- by -1 nothing is left
pub by_minus_one : (a b : ℤ) → b ≡ negsuc 0 → unless_zero b (int_rem a b) ≡ Ok (pos 0)
by_minus_one a b is = ap (λ d. unless_zero d (int_rem a d)) is ∙ ap (λ (n : ℤ). unless_zero (negsuc 0) n) (rest_of_one a)

pub rest_fits : (a b : ℤ) → FitsSigned w64 a → FitsSigned w64 (int_rem a b)
rest_fits a b fits = record { sfits = omega (arith, mag_rem a b, fits.sfits) }

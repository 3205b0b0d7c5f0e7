use Rattle.std.proofs.Common.{rules, ◌≡◌, ℤ, pos, sym, subst, refl, arith}
use Rattle.std.specs.Prelude.{◌≢◌, negsuc, int_rem, FitsSigned, Result, List, ℕ}
use Rattle.std.specs.Int.{w64}
use Rattle.std.proofs.lemmas.Int.{ints, rem_is}
use Rattle.sql_values.specs.Outcome.{Gives}
use Rattle.sql_values.specs.Arithmetic.{sized}
use Rattle.sql_values.proofs.Numbers.{by_other, by_minus_one, rest_fits}
use Rattle.sql_values.proofs.arithmetic.rest.Goals as goal

pub returns-then-divisor-eqminus1 : goal.returns-then-divisor-eqminus1
returns-then-divisor-eqminus1 c =
    let a = c.args.dividend in
    let b = c.args.divisor in
    let is : b ≡ negsuc 0 = omega (arith, ints) in
    let fits : FitsSigned w64 (pos 0) = search rules in
    subst (λ (o : Result ℤ (List ℕ)). Gives c.sized.result (sized c.args.narrow o)) (sym (by_minus_one a b is))
    (c.sized.ensures (pos 0) (fits, refl))

pub returns : goal.returns
returns c =
    let a = c.args.dividend in
    let b = c.args.divisor in
    let other : b ≢ pos 0 = λ is. omega (arith, ints) in
    subst (λ (o : Result ℤ (List ℕ)). Gives c.sized-2.result (sized c.args.narrow o)) (sym (by_other b (int_rem a b) other))
    (c.sized-2.ensures (int_rem a b) (rest_fits a b c.ranges.dividend, rem_is w64 a b c.ranges.dividend c.ranges.divisor))

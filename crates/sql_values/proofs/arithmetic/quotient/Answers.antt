use Rattle.std.proofs.Common.{◌≡◌, ℤ, pos, sym, subst, to_z, of_z, arith}
use Rattle.std.specs.Prelude.{◌≢◌, int_div, Result, List, ℕ}
use Rattle.std.specs.Int.{w64, CanDivide}
use Rattle.std.specs.Option.{SomeIff}
use Rattle.std.proofs.lemmas.Int.{ints, to_z-of_z}
use Rattle.sql_values.specs.Outcome.{Gives}
use Rattle.sql_values.specs.Arithmetic.{sized}
use Rattle.sql_values.proofs.Numbers.{by_other, quotient_given}
use Rattle.sql_values.proofs.arithmetic.quotient.Goals as goal

pub returns : goal.returns
returns c =
    let a = c.args.dividend in
    let b = c.args.divisor in
    let other : b ≢ pos 0 = λ is. omega (arith, ints) in
    let ea : to_z w64 (of_z w64 a) ≡ a = to_z-of_z w64 a c.ranges.dividend in
    let eb : to_z w64 (of_z w64 b) ≡ b = to_z-of_z w64 b c.ranges.divisor in
    let P : ℤ → ℤ → Type 0 = λ x y. SomeIff c.checked_div.result (CanDivide w64 x y) (int_div x y) in
    let half : P a (to_z w64 (of_z w64 b)) = subst (λ (x : ℤ). P x (to_z w64 (of_z w64 b))) ea c.checked_div.ensures in
    let given : P a b = subst (P a) eb half in
    subst (λ (o : Result ℤ (List ℕ)). Gives c.sized.result (sized c.args.narrow o)) (sym (by_other b (int_div a b) other))
    (c.sized.ensures (int_div a b) (quotient_given c.checked_div.result a b c.ranges.divisor other given))

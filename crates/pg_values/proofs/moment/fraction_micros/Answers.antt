use Rattle.std.proofs.Common.{◌*◌, ℕ, Some, arith, ap, subst}
use Rattle.pg_values.specs.Moments.{FractionFits}
use Rattle.pg_values.proofs.MomentMeaning.{fraction_below, small_power}
use Rattle.pg_values.proofs.moment.fraction_micros.Goals as goal

pub overflow_sub-fraction : goal.overflow_sub-fraction
overflow_sub-fraction c = let fits : FractionFits (Some c.in-Some.fraction) = subst FractionFits c.in-Some.is c.requires in fits.1

pub pow-requires : goal.pow-requires
pow-requires c = small_power _ (omega arith)

pub overflow_mul-result : goal.overflow_mul-result
overflow_mul-result c =
    let fits : FractionFits (Some c.in-Some.fraction) = subst FractionFits c.in-Some.is c.requires in
    let below = fraction_below c.in-Some.fraction.number c.in-Some.fraction.digits fits.1 fits.2 in
    let worth = ap (λ (k : ℕ). c.in-Some.fraction.number * k) c.pow.ensures in
    omega arith

pub returns-in-Some-clause-below : goal.returns-in-Some-clause-below
returns-in-Some-clause-below c =
    let fits : FractionFits (Some c.in-Some.fraction) = subst FractionFits c.in-Some.is c.requires in
    let below = fraction_below c.in-Some.fraction.number c.in-Some.fraction.digits fits.1 fits.2 in
    let worth = ap (λ (k : ℕ). c.in-Some.fraction.number * k) c.pow.ensures in
    omega arith

use Rattle.std.proofs.Common.{ℤ, arith, refl, ap, ◌∙◌, Ok}
use Rattle.std.proofs.lemmas.Int.{ints, to_z-of_z}
use Rattle.time_rewrite.specs.Rewriting.{at_moment}
use Rattle.time_rewrite.proofs.Refusals.{taken}
use Rattle.time_rewrite.proofs.TimelessLemmas.{made_timeless}
use Rattle.time_rewrite.proofs.statement.rewrite.Goals as goal

pub returns-clause-timeless : goal.returns-clause-timeless
returns-clause-timeless c =
    made_timeless c.args.moment c.args.checked.now c.in_ok-checked_at.field-0
    (c.in_ok-checked_at.ensures ∙ ap (λ (m : ℤ). at_moment m c.args.checked.now) (to_z-of_z _ c.args.moment c.ranges.moment))

pub returns-clause-in_range : goal.returns-clause-in_range
returns-clause-in_range c =
    let within = c.is_moment.ensures.0 c.if-not-is_moment.false in
    (omega (arith, ints, within.0), omega (arith, ints, within.1))

pub returns-clause-out_of_range : goal.returns-clause-out_of_range
returns-clause-out_of_range c =
    let within = c.is_moment.ensures.0 c.if-not-is_moment.false in
    taken (Ok c.in_ok-checked_at.field-0) c.in_ok-checked_at.field-0 refl (omega (arith, ints, within.0), omega (arith, ints, within.1))

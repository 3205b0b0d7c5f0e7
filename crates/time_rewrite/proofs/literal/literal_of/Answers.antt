use Rattle.std.proofs.Common.{arith, refl, Ok}
use Rattle.std.proofs.lemmas.Int.{ints}
use Rattle.time_rewrite.proofs.Refusals.{taken}
use Rattle.time_rewrite.proofs.literal.literal_of.Goals as goal

pub returns-clause-in_range : goal.returns-clause-in_range
returns-clause-in_range c =
    let within = c.is_moment.ensures.0 c.if-not-is_moment.false in
    (omega (arith, ints, within.0), omega (arith, ints, within.1))

pub returns-clause-out_of_range : goal.returns-clause-out_of_range
returns-clause-out_of_range c =
    let within = c.is_moment.ensures.0 c.if-not-is_moment.false in
    taken (Ok c.from_string.result) c.from_string.result refl (omega (arith, ints, within.0), omega (arith, ints, within.1))

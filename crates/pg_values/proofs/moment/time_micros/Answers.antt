use Rattle.std.proofs.Common.{arith}
use Rattle.std.proofs.lemmas.Int.{ints}
use Rattle.pg_values.proofs.moment.time_micros.Goals as goal

pub returns-clause-value : goal.returns-clause-value
returns-clause-value c =
    let seconds = c.in_ok-seconds.ensures.value in
    let below = c.in_ok-seconds.ensures.below in
    let ahead = c.in_ok-ahead.ensures.value in
    let within = c.in_ok-ahead.ensures.within in
    ((omega arith, omega arith, seconds.0, ahead.0), omega (arith, ints, seconds.1, ahead.1, within.0, within.1, below))

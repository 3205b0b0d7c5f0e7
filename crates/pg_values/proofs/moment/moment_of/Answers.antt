use Rattle.std.proofs.Common.{arith}
use Rattle.std.proofs.lemmas.Int.{ints}
use Rattle.pg_values.proofs.MomentMeaning.{is_meant, not_meant}
use Rattle.pg_values.proofs.moment.moment_of.Goals as goal

pub returns-then-not-is_moment : goal.returns-then-not-is_moment
returns-then-not-is_moment c =
    let day = c.in_ok-day.ensures.within in
    let clock = c.in_ok-clock.ensures.within in
    not_meant c.args.written c.in_ok-day.day c.in_ok-clock.clock _ c.is_moment.result c.in_ok-day.ensures.value.1 c.in_ok-clock.ensures.value.1
    (omega (arith, ints, day.0, day.1, clock.0, clock.1)) c.is_moment.ensures c.if-not-is_moment.true

pub returns : goal.returns
returns c =
    let day = c.in_ok-day.ensures.within in
    let clock = c.in_ok-clock.ensures.within in
    is_meant c.args.written c.in_ok-day.day c.in_ok-clock.clock _ c.is_moment.result c.in_ok-day.ensures.value c.in_ok-clock.ensures.value
    (omega (arith, ints, day.0, day.1, clock.0, clock.1)) c.is_moment.ensures c.if-not-is_moment.false

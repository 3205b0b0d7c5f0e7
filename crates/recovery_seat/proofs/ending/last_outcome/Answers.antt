use Rattle.recovery_seat.proofs.ArmLemmas.{rests_behind}
use Rattle.recovery_seat.proofs.ending.last_outcome.Goals as goal

pub returns-then-is_own-clause-rest : goal.returns-then-is_own-clause-rest
returns-then-is_own-clause-rest c = λ layout is.
    rests_behind layout c.args.place.now.seat.s c.args.place.now.recovery c.in-Some.recovery c.replied.result c.in-Some.is (c.is_own.ensures c.if-is_own.true layout is)

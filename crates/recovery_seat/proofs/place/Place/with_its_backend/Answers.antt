use Rattle.recovery_seat.proofs.place.Place.with_its_backend.Goals as goal

pub returns-clause-session : goal.returns-clause-session
returns-clause-session c = λ b due. c.joined.ensures.kept b (c.joined-with_own.ensures.there b (c.backend_of.ensures b due))

pub returns-clause-recovery : goal.returns-clause-recovery
returns-clause-recovery c = λ layout b due. c.joined.ensures.there b (c.backend_of_recovery.ensures layout c.args.self.now.seat.s b due)

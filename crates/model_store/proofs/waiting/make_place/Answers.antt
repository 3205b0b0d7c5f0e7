use Rattle.std.proofs.Common.{sym, subst, arith}
use Rattle.std.proofs.lemmas.Result.{on_ok_weaker}
use Rattle.outcomes.specs.declared.outcome.Outcome.{Outcome}
use Rattle.model_store.specs.Phases.{has_room_for}
use Rattle.model_store.proofs.waiting.make_place.Goals as goal

pub returns-in-Fails-clause-room : goal.returns-in-Fails-clause-room
returns-in-Fails-clause-room c = subst (λ (o : Outcome). has_room_for c.args.work.now o) (sym c.in-Fails.is) tt

pub returns-in-Gives-clause-room : goal.returns-in-Gives-clause-room
returns-in-Gives-clause-room c =
    on_ok_weaker c.make_room.result
    (λ h. subst (λ (o : Outcome). has_room_for c.make_room.new.work o) (sym c.in-Gives.is) (omega (arith, h.0), omega (arith, h.1))) c.make_room.ensures.room

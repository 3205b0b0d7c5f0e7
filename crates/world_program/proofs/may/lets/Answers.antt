use Rattle.std.proofs.Common.{Bool, subst, sym}
use Rattle.std.specs.Prelude.{slice_get}
use Rattle.backend_trait.proofs.Telling.{Tells}
use Rattle.session_machine.specs.declared.action.SessionEvent.{SessionEvent}
use Rattle.session_machine.specs.declared.action.SessionEvent.TheVariants as events
use Rattle.one_copy_model.specs.World.{Lets}
use Rattle.world_program.specs.Meaning.{world_of}
use Rattle.world_program.proofs.Backends.{mailed_told}
use Rattle.world_program.proofs.may.lets.Goals as goal

pub returns-in-Taken : goal.returns-in-Taken
returns-in-Taken c =
    let w = c.args.w.now in
    let s = c.args.s.number in
    let b = c.in-Taken.b.number in
    subst (λ (e : SessionEvent). Tells c.lets_take.result (Lets (world_of w) s e)) (sym c.in-Taken.is)
    (subst (λ (t : Bool). Tells t (Lets (world_of w) s (events.Taken c.in-Taken.b c.in-Taken.answer))) (sym c.lets_take.ensures)
    (mailed_told (slice_get w.backends.items b) s c.in-Taken.answer))

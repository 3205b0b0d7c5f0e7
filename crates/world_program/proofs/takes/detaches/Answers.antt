use Rattle.std.proofs.Common.{Bool, sym, subst}
use Rattle.backend_trait.proofs.Telling.{Tells}
use Rattle.session_machine.specs.Rules.{next_action}
use Rattle.session_machine.specs.Allowed.{MayHappen}
use Rattle.session_machine.specs.declared.action.SessionEvent.TheVariants as events
use Rattle.session_engine.specs.Cores.{machine_in}
use Rattle.world_program.proofs.Sessions.{detach_is, detach_told}
use Rattle.world_program.proofs.takes.detaches.Goals as goal

pub cause-requires : goal.cause-requires
cause-requires c = detach_is (next_action (machine_in c.args.core.now)) c.args.due c.requires

pub returns : goal.returns
returns c =
    let m = machine_in c.args.core.now in
    subst (λ (t : Bool). Tells t (MayHappen m (events.Detached c.args.b c.args.cause.now c.args.answer))) (sym c.is_detach.ensures)
    (detach_told (next_action m) c.args.due c.args.b _ c.args.cause.now c.args.answer c.requires c.in_ok-made.ensures.is)

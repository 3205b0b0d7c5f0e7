use Rattle.std.proofs.Common.{Bool, sym, ap, ◌∙◌, subst}
use Rattle.backend_trait.proofs.Telling.{Tells}
use Rattle.session_machine.specs.Allowed.{MayHappen}
use Rattle.session_machine.specs.declared.action.SessionEvent.TheVariants as events
use Rattle.session_engine.specs.Cores.{machine_in}
use Rattle.session_machine.specs.declared.machine.Machine.{Machine}
use Rattle.world_program.specs.Deciding.{is_reply}
use Rattle.world_program.proofs.Sessions.{reply_told}
use Rattle.world_program.proofs.takes.may_reply.Goals as goal

pub returns : goal.returns
returns c =
    let m = machine_in c.args.core.now in
    subst (λ (t : Bool). Tells t (MayHappen m (events.Replied c.args.outcome.now c.args.status)))
    (sym (c.is_reply.ensures ∙ ap (λ (n : Machine). is_reply n.session.status n.point c.args.outcome.now c.args.status) c.standing.ensures))
    (reply_told m.session m.point c.args.outcome.now c.args.status)

use Rattle.std.proofs.Common.{Bool, sym, ap, ◌∙◌, subst}
use Rattle.backend_trait.proofs.Telling.{Tells}
use Rattle.session_machine.specs.Rules.{next_action}
use Rattle.session_machine.specs.Allowed.{MayHappen}
use Rattle.session_machine.specs.declared.action.SessionEvent.TheVariants as events
use Rattle.session_engine.specs.Cores.{machine_in}
use Rattle.session_engine.specs.declared.ask.Ask.{Ask}
use Rattle.world_program.specs.Deciding.{is_call_due}
use Rattle.world_program.proofs.Sessions.{call_due}
use Rattle.world_program.proofs.takes.may_call.Goals as goal

pub returns : goal.returns
returns c =
    let m = machine_in c.args.core.now in
    subst (λ (t : Bool). Tells t (MayHappen m (events.Called c.args.call c.args.answer)))
    (sym (c.is_call_due.ensures ∙ ap (λ (a : Ask). is_call_due a c.args.call c.args.answer) c.asks.ensures.is))
    (call_due (next_action m) c.args.call c.args.answer)

use Rattle.std.proofs.Common.{Bool, sym, ap, ◌∙◌, subst}
use Rattle.backend_trait.proofs.Telling.{Tells}
use Rattle.session_machine.specs.Rules.{next_action}
use Rattle.session_machine.specs.Allowed.{MayHappen}
use Rattle.session_machine.specs.declared.action.SessionEvent.TheVariants as events
use Rattle.session_engine.specs.Cores.{machine_in}
use Rattle.world_program.specs.Deciding.{is_end_due}
use Rattle.world_program.proofs.Sessions.{end_told}
use Rattle.world_program.proofs.takes.may_end.Goals as goal

pub returns : goal.returns
returns c =
    let m = machine_in c.args.core.now in
    subst (λ (t : Bool). Tells t (MayHappen m events.Ended)) (sym (c.is_end_due.ensures ∙ ap is_end_due c.asks.ensures.is)) (end_told (next_action m))

use Rattle.std.proofs.Common.{sym, ap, ◌∙◌}
use Rattle.backend_trait.proofs.Telling.{never}
use Rattle.session_machine.specs.Rules.{next_action}
use Rattle.session_engine.specs.Cores.{machine_in}
use Rattle.world_program.specs.Deciding.{detach_due}
use Rattle.world_program.proofs.Sessions.{no_detach}
use Rattle.world_program.proofs.takes.may_detach.Goals as goal

pub detaches-requires : goal.detaches-requires
detaches-requires c = sym (c.detach_due.ensures ∙ ap detach_due c.asks.ensures.is) ∙ c.in-Some.is

pub returns-in-None : goal.returns-in-None
returns-in-None c =
    never _ (λ h. no_detach (next_action (machine_in c.args.core.now)) c.args.b c.args.cause.now (sym (c.detach_due.ensures ∙ ap detach_due c.asks.ensures.is) ∙ c.in-None.is) h.0)

use Rattle.std.proofs.Common.{◌∙◌, refl, ap, subst}
use Rattle.session_machine.specs.declared.action.SessionEvent.TheVariants as events
use Rattle.session_machine.specs.Allowed.{MayHappen}
use Rattle.session_machine.specs.Rules.{after}
use Rattle.session_engine.specs.declared.session.Core.{Core}
use Rattle.session_engine.specs.Cores.{machine_in}
use Rattle.session_seat.proofs.step.accept.Goals as goal

pub returns-clause-ordered : goal.returns-clause-ordered
returns-clause-ordered c = λ shared. (
  record {
    event = events.Ordered c.args.order;
    moves = record {
      may = subst (λ (core : Core). MayHappen (machine_in core) (events.Ordered c.args.order)) c.note_order.ensures.core c.in_default.ensures.may;
      answered = refl;
      serves = (c.in_default.ensures.ready, refl);
      leads = c.in_ok-order.ensures.state ∙ ap (λ (core : Core). after (machine_in core) (events.Ordered c.args.order)) c.note_order.ensures.core;
    };
    tells = c.in_default.ensures.line;
  },
  refl,
)

use Rattle.std.proofs.Common.{◌≡◌, ◌∙◌, refl, sym, ap, rules}
use Rattle.std.specs.Prelude.{IfErr, ◌⊎◌}
use Rattle.session_wire.specs.Shown.{shown}
use Rattle.session_seat.specs.declared.fault.StepFault.TheVariants.{Stopped}
use Rattle.session_seat.specs.Stops.{IsFull, StopsTelling}
use Rattle.session_machine.specs.declared.action.SessionEvent.TheVariants as events
use Rattle.session_engine.specs.declared.session.Core.{Core}
use Rattle.session_engine.specs.Cores.{machine_in}
use Rattle.session_seat.proofs.DueLemmas.{reply_stop}
use Rattle.session_seat.proofs.StepLemmas.{replied}
use Rattle.session_seat.proofs.step.reply.Goals as goal

pub returns-in_err-tell-clause-stopped : goal.returns-in_err-tell-clause-stopped
returns-in_err-tell-clause-stopped c =
    let view = shown c.args.seat.now.wire in
    let why : IfErr c.from_residual.result (λ e. e ≡ Stopped → IsFull c.args.book.now.events ⊎ StopsTelling c.args.setting.config.now.nodes c.reply-outcome.result.0 c.reply-outcome.result.1 view) = search rules in
    reply_stop c.args.setting.config.now.nodes c.args.book.now.events (machine_in c.args.seat.now.core) c.reply-outcome.result.0 c.reply-outcome.result.1 view c.from_residual.result c.reply-outcome.ensures.reply why

pub returns-clause-speaks : goal.returns-clause-speaks
returns-clause-speaks c = λ shared. (
  record {
    event = events.Replied c.reply-outcome.result.0 c.reply-outcome.result.1;
    moves = record {
      may = sym c.reply-outcome.ensures.reply;
      answered = refl;
      serves = refl;
      leads = ap (λ (core : Core). machine_in core) c.tell.ensures.core ∙ (c.reply-outcome.ensures.rest ∙ replied (machine_in c.args.seat.now.core) c.reply-outcome.result.0 c.reply-outcome.result.1 c.reply-outcome.ensures.reply);
    };
    tells = c.in_ok-tell.ensures.line;
  },
  c.in_ok-tell.ensures.hears,
)

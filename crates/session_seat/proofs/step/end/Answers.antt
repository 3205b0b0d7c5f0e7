use Rattle.std.proofs.Common.{ℕ, true, List, ◌∙◌, ap, refl}
use Rattle.session_wire.specs.Shown.{shown}
use Rattle.session_machine.specs.declared.action.SessionEvent.TheVariants as events
use Rattle.session_engine.specs.Cores.{machine_in}
use Rattle.session_seat.proofs.StepLemmas.{ended}
use Rattle.session_seat.proofs.step.end.Goals as goal

pub returns-clause-speaks : goal.returns-clause-speaks
returns-clause-speaks c = λ shared. (
  record {
    event = events.Ended;
    moves = record { may = c.requires.due; answered = refl; serves = refl; leads = c.end.ensures ∙ ended (machine_in c.args.seat.now.core) c.requires.due };
    tells = c.in_ok-note.ensures.line;
  },
  ap (λ (lines : List ℕ). record { view = shown c.args.seat.now.wire; over = true; lines = lines }) c.note.ensures.lines,
)

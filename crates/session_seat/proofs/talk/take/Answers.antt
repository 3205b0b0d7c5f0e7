use Rattle.session_machine.specs.declared.action.SessionEvent.TheVariants as events
use Rattle.session_seat.proofs.talk.take.Goals as goal

pub returns-clause-quiet : goal.returns-clause-quiet
returns-clause-quiet c = λ old new gate serves. (
  record {
    event = events.Taken c.args.b c.args.answer;
    moves = record { may = c.in_default.ensures.may; answered = gate; serves = serves; leads = c.backend_answer.ensures };
    tells = c.in_default.ensures.lines;
  },
  tt,
)

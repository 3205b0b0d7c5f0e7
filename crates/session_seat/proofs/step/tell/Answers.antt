use Rattle.std.proofs.Common.{ℕ, List, refl, subst}
use Rattle.std.proofs.lemmas.Result.{on_ok_weaker}
use Rattle.session_wire.specs.Shown.{shown}
use Rattle.session_seat.specs.Speech.{IsWritten}
use Rattle.session_seat.proofs.DueLemmas.{told_never, told_stop}
use Rattle.session_seat.proofs.SpeechLemmas.{heard_at}
use Rattle.session_seat.proofs.step.tell.Goals as goal

pub returns-in-Err-clause-stopped : goal.returns-in-Err-clause-stopped
returns-in-Err-clause-stopped c = λ same. told_never c.args.setting.config.now.nodes c.args.book.now.events c.args.outcome c.args.status (shown c.args.seat.now.wire) (c.in-Err.ensures.stopped same)

pub returns-clause-stopped : goal.returns-clause-stopped
returns-clause-stopped c =
    told_stop c.args.setting.config.now.nodes c.args.book.now.events c.args.outcome c.args.status c.byte.result (shown c.args.seat.now.wire) (shown c.answer.new.self) c.put_output.result c.byte.ensures c.in_ok-answer.ensures.says c.answer.ensures.none
    c.put_output.ensures.stopped

pub returns-clause-hears : goal.returns-clause-hears
returns-clause-hears c =
    let told = c.in_ok-answer.ensures in
    on_ok_weaker c.put_output.result
    (λ written. record {
      behind = shown c.answer.new.self;
      heard = heard_at c.args.setting.config.now.nodes c.args.outcome c.args.status c.byte.result (shown c.args.seat.now.wire) (shown c.answer.new.self) c.byte.ensures told.says told.status told.implicit told.skips c.answer.ensures.kept told.left
          told.portals told.ended told.settled c.answer.ensures.gone c.answer.ensures.none;
      written = subst (λ (had : List ℕ). IsWritten c.args.seat.now.s.number (shown c.answer.new.self) (shown c.put_output.new.wire) had c.put_output.new.book.lines) c.note_reply.ensures.lines written;
      over = refl;
    }) c.put_output.ensures.written

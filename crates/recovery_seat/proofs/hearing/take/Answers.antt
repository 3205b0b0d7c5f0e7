use Rattle.std.proofs.Common.{refl}
use Rattle.session_machine.specs.declared.action.SessionEvent.TheVariants as events
use Rattle.online_recovery.specs.Asking.{standing_in}
use Rattle.recovery_seat.specs.Steps.{at}
use Rattle.recovery_seat.proofs.SpeechLemmas.{said, same_lines}
use Rattle.recovery_seat.proofs.StepLemmas.{proceeded}
use Rattle.recovery_seat.proofs.hearing.take.Goals as goal

pub returns-clause-noted : goal.returns-clause-noted
returns-clause-noted c = λ machine others old new gate serves.
    let before = at old machine (standing_in c.args.recovery.now) c.args.book.now.journal in
    (proceeded c.args.setting.tables.now c.args.s others (events.Taken c.args.b c.args.answer) before (at new machine (standing_in c.backend_answer.new.self) c.note_answer.new.book.journal)
    c.in_default.ensures.may (λ machines recoveries own stands fits. tt) gate serves refl c.backend_answer.ensures c.in_default.ensures.lines).0

pub returns-clause-speaks : goal.returns-clause-speaks
returns-clause-speaks c = λ machine others old new was gate serves same.
    let before = at old machine (standing_in c.args.recovery.now) c.args.book.now.journal in
    said c.args.setting.tables.now c.args.setting.moment c.args.setting.config.now.nodes c.args.s others (events.Taken c.args.b c.args.answer) before
    (at new machine (standing_in c.backend_answer.new.self) c.note_answer.new.book.journal) was (record was { lines = c.note_answer.new.book.lines })
    (proceeded c.args.setting.tables.now c.args.s others (events.Taken c.args.b c.args.answer) before (at new machine (standing_in c.backend_answer.new.self) c.note_answer.new.book.journal)
    c.in_default.ensures.may (λ machines recoveries own stands fits. tt) gate serves refl c.backend_answer.ensures c.in_default.ensures.lines)
    (same_lines was c.args.book.now.lines c.note_answer.new.book.lines same c.note_answer.ensures.still)

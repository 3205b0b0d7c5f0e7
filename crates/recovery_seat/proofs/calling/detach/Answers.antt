use Rattle.std.proofs.Common.{◌++◌, ◌∙◌, ap}
use Rattle.session_machine.specs.declared.action.Cause.{Cause}
use Rattle.session_machine.specs.declared.action.SessionEvent.TheVariants as events
use Rattle.online_recovery.specs.Rules.{next_action}
use Rattle.online_recovery.specs.Asking.{standing_in}
use Rattle.session_seat.specs.Shared.{shared_of}
use Rattle.session_seat.specs.Speech.{told_detached}
use Rattle.recovery_seat.specs.Steps.{at}
use Rattle.recovery_seat.proofs.ArmLemmas.{detached_place}
use Rattle.recovery_seat.proofs.SpeechLemmas.{more_lines, one_cause, said}
use Rattle.recovery_seat.proofs.calling.detach.Goals as goal

pub returns-clause-noted : goal.returns-clause-noted
returns-clause-noted g c = λ machine others.
    let world = c.args.world.now in
    let new = c.call.new.self in
    (detached_place c.args.setting.tables.now c.args.s others machine
    (shared_of g.B.Backend.meaning world.gate.state world.tables world.count world.shelf.items) (shared_of g.B.Backend.meaning new.gate.state new.tables new.count new.shelf.items)
    (standing_in c.args.recovery.now) (standing_in c.gate_answer.new.self) c.args.book.now.journal c.note_detached.new.book.journal c.args.b c.in_ok-answer.answer
    c.requires.asked c.in_ok-answer.ensures.answered c.call.ensures.stores (c.may_gate_answer.ensures.0 c.if-not-may_gate_answer.false) c.gate_answer.ensures c.in_ok-note_detached.ensures.line).0

pub returns-clause-speaks : goal.returns-clause-speaks
returns-clause-speaks g c = λ machine others was same.
    let world = c.args.world.now in
    let new = c.call.new.self in
    let line = c.in_ok-note_detached.ensures.line in
    let spoken = c.in_ok-note_detached.ensures.told in
    let answer = c.in_ok-answer.answer in
    said c.args.setting.tables.now c.args.setting.moment c.args.setting.config.now.nodes c.args.s others (events.Detached c.args.b line.0 answer)
    (at (shared_of g.B.Backend.meaning world.gate.state world.tables world.count world.shelf.items) machine (standing_in c.args.recovery.now) c.args.book.now.journal)
    (at (shared_of g.B.Backend.meaning new.gate.state new.tables new.count new.shelf.items) machine (standing_in c.gate_answer.new.self) c.note_detached.new.book.journal)
    was (record was { lines = c.note_detached.new.book.lines })
    (detached_place c.args.setting.tables.now c.args.s others machine
    (shared_of g.B.Backend.meaning world.gate.state world.tables world.count world.shelf.items) (shared_of g.B.Backend.meaning new.gate.state new.tables new.count new.shelf.items)
    (standing_in c.args.recovery.now) (standing_in c.gate_answer.new.self) c.args.book.now.journal c.note_detached.new.book.journal c.args.b c.in_ok-answer.answer
    c.requires.asked c.in_ok-answer.ensures.answered c.call.ensures.stores (c.may_gate_answer.ensures.0 c.if-not-may_gate_answer.false) c.gate_answer.ensures c.in_ok-note_detached.ensures.line)
    (more_lines was c.args.book.now.lines c.note_detached.new.book.lines (told_detached c.args.b.number line.0 answer) same
    (spoken.2 ∙ ap (λ (cause : Cause). c.args.book.now.lines ++ told_detached c.args.b.number cause answer) (one_cause (next_action (standing_in c.args.recovery.now)) line.0 spoken.0 line.1 spoken.1)))

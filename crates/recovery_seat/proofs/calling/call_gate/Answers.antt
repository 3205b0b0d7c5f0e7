use Rattle.std.proofs.Common.{ℕ, List, ◌++◌, ◌∙◌, ap, refl}
use Rattle.session_machine.specs.declared.action.SessionEvent.TheVariants as events
use Rattle.online_recovery.specs.Asking.{standing_in}
use Rattle.session_seat.specs.Shared.{shared_of}
use Rattle.session_seat.proofs.ServedLemmas.{held_shared}
use Rattle.recovery_seat.specs.Steps.{at}
use Rattle.recovery_seat.specs.Speech.{told_called}
use Rattle.recovery_seat.proofs.ArmLemmas.{called_place}
use Rattle.recovery_seat.proofs.SpeechLemmas.{more_lines, said, same_lines}
use Rattle.recovery_seat.proofs.calling.call_gate.Goals as goal

pub returns-then-is_tried_again-clause-noted : goal.returns-then-is_tried_again-clause-noted
returns-then-is_tried_again-clause-noted g c = λ machine others.
    let world = c.args.world.now in
    let new = c.call.new.self in
    let held = c.is_tried_again.ensures c.if-is_tried_again.true in
    record {
      shared = held_shared (shared_of g.B.Backend.meaning world.gate.state world.tables world.count world.shelf.items) (shared_of g.B.Backend.meaning new.gate.state new.tables new.count new.shelf.items)
          c.args.call c.in_ok-answer.answer held.0 c.in_ok-answer.ensures.answered held.1 c.call.ensures.stores;
      machine = refl;
      standing = refl;
      journal = refl;
    }

pub returns-clause-noted : goal.returns-clause-noted
returns-clause-noted g c = λ machine others.
    let world = c.args.world.now in
    let new = c.call.new.self in
    (called_place c.args.setting.tables.now c.args.s others machine
    (shared_of g.B.Backend.meaning world.gate.state world.tables world.count world.shelf.items) (shared_of g.B.Backend.meaning new.gate.state new.tables new.count new.shelf.items)
    (standing_in c.args.recovery.now) (standing_in c.gate_answer.new.self) c.args.book.now.journal c.put_attached.new.book.journal c.args.call c.in_ok-answer.answer
    c.requires.asked c.in_ok-answer.ensures.may c.in_ok-answer.ensures.answered c.call.ensures.stores (c.may_gate_answer.ensures.0 c.if-not-may_gate_answer.false)
    c.gate_answer.ensures (c.put_attached.ensures.journal ∙ c.in_ok-note.ensures.line)).0

pub returns-clause-speaks : goal.returns-clause-speaks
returns-clause-speaks g c = λ machine others was same.
    let world = c.args.world.now in
    let new = c.call.new.self in
    said c.args.setting.tables.now c.args.setting.moment c.args.setting.config.now.nodes c.args.s others (events.Called c.args.call c.in_ok-answer.answer)
    (at (shared_of g.B.Backend.meaning world.gate.state world.tables world.count world.shelf.items) machine (standing_in c.args.recovery.now) c.args.book.now.journal)
    (at (shared_of g.B.Backend.meaning new.gate.state new.tables new.count new.shelf.items) machine (standing_in c.gate_answer.new.self) c.put_attached.new.book.journal)
    was (record was { lines = c.put_attached.new.book.lines })
    (called_place c.args.setting.tables.now c.args.s others machine
    (shared_of g.B.Backend.meaning world.gate.state world.tables world.count world.shelf.items) (shared_of g.B.Backend.meaning new.gate.state new.tables new.count new.shelf.items)
    (standing_in c.args.recovery.now) (standing_in c.gate_answer.new.self) c.args.book.now.journal c.put_attached.new.book.journal c.args.call c.in_ok-answer.answer
    c.requires.asked c.in_ok-answer.ensures.may c.in_ok-answer.ensures.answered c.call.ensures.stores (c.may_gate_answer.ensures.0 c.if-not-may_gate_answer.false)
    c.gate_answer.ensures (c.put_attached.ensures.journal ∙ c.in_ok-note.ensures.line))
    (more_lines was c.args.book.now.lines c.put_attached.new.book.lines (told_called c.args.call c.in_ok-answer.answer) same
    (c.in_ok-put_attached.ensures.lines ∙ ap (λ (z : List ℕ). z ++ told_called c.args.call c.in_ok-answer.answer) c.note.ensures.lines))

pub returns-then-is_tried_again-clause-speaks : goal.returns-then-is_tried_again-clause-speaks
returns-then-is_tried_again-clause-speaks g c = λ machine others was same.
    (returns-then-is_tried_again-clause-noted g c machine others, same_lines was c.args.book.now.lines c.args.book.now.lines same refl)

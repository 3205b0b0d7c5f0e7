use Rattle.std.proofs.Common.{refl}
use Rattle.session_engine.specs.Cores.{machine_in}
use Rattle.session_seat.specs.Shared.{shared_of}
use Rattle.session_seat.proofs.ServedLemmas.{held_shared}
use Rattle.session_seat.proofs.DueLemmas.{called_may, called_place, called_step, held_step, not_held}
use Rattle.session_seat.proofs.step.call_gate.Goals as goal

pub gate_answer-requires : goal.gate_answer-requires
gate_answer-requires g c =
    called_may (machine_in c.args.seat.now.core) c.args.world.now.gate.state c.call.new.self.gate.state c.args.call c.in_ok-answer.answer c.requires.asked c.in_ok-answer.ensures.answered (not_held c.in_ok-answer.answer c.in_default.not-Held)

pub returns-in-Held-clause-due : goal.returns-in-Held-clause-due
returns-in-Held-clause-due g c =
    held_step c.args.world.now.gate.state c.call.new.self.gate.state c.args.call c.in_ok-answer.answer c.in-Held.field-0 c.in_ok-answer.ensures.answered c.in-Held.is

pub returns-in-Held-clause-quiet : goal.returns-in-Held-clause-quiet
returns-in-Held-clause-quiet g c =
    let world = c.args.world.now in
    let new = c.call.new.self in
    record {
      shared = held_shared (shared_of g.B.Backend.meaning world.gate.state world.tables world.count world.shelf.items) (shared_of g.B.Backend.meaning new.gate.state new.tables new.count new.shelf.items)
          c.args.call c.in_ok-answer.answer c.in-Held.field-0 c.in_ok-answer.ensures.answered c.in-Held.is c.call.ensures.stores;
      machine = refl;
      journal = refl;
    }

pub returns-clause-quiet : goal.returns-clause-quiet
returns-clause-quiet g c =
    let world = c.args.world.now in
    let new = c.call.new.self in
    called_place c.args.setting.tables.now c.args.seat.now.s (machine_in c.args.seat.now.core) (machine_in c.gate_answer.new.self)
    (shared_of g.B.Backend.meaning world.gate.state world.tables world.count world.shelf.items) (shared_of g.B.Backend.meaning new.gate.state new.tables new.count new.shelf.items)
    c.args.book.now.journal c.note.new.self.journal c.args.call c.in_ok-answer.answer c.requires.asked c.in_ok-answer.ensures.may c.in_ok-answer.ensures.answered c.call.ensures.stores
    (not_held c.in_ok-answer.answer c.in_default.not-Held) c.gate_answer.ensures c.in_ok-note.ensures.line

pub returns-clause-due : goal.returns-clause-due
returns-clause-due g c =
    called_step c.args.world.now.gate.state c.call.new.self.gate.state c.args.call c.in_ok-answer.answer c.mark_of.result c.mark_of.ensures c.in_ok-answer.ensures.answered (not_held c.in_ok-answer.answer c.in_default.not-Held)

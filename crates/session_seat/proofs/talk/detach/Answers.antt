use Rattle.std.proofs.Common.{ℕ, List, ◌++◌, ◌∙◌, ap}
use Rattle.session_machine.specs.declared.action.Cause.{Cause}
use Rattle.session_machine.specs.Rules.{next_action}
use Rattle.session_engine.specs.Cores.{machine_in}
use Rattle.session_wire.specs.Shown.{shown}
use Rattle.session_seat.specs.Shared.{shared_of}
use Rattle.session_seat.specs.Speech.{speech, told_detached}
use Rattle.session_seat.specs.Steps.{at}
use Rattle.session_seat.proofs.DueLemmas.{detached_may, detached_place}
use Rattle.session_seat.proofs.SpeechLemmas.{detached_told, one_cause}
use Rattle.session_seat.proofs.talk.detach.Goals as goal

pub gate_answer-requires : goal.gate_answer-requires
gate_answer-requires g c =
    detached_may (machine_in c.args.seat.now.core) c.args.world.now.gate.state c.call.new.self.gate.state c.args.b c.in_ok-answer.answer c.requires.due c.in_ok-answer.ensures.answered

pub returns-clause-speaks : goal.returns-clause-speaks
returns-clause-speaks g c =
    let world = c.args.world.now in
    let new = c.call.new.self in
    let book = c.note_detached.new.book in
    let line = c.in_ok-note_detached.ensures.line in
    let spoken = c.in_ok-note_detached.ensures.told in
    let answer = c.in_ok-answer.answer in
    let machine = machine_in c.args.seat.now.core in
    let seat = c.args.seat.now in
    detached_told c.args.setting.tables.now c.args.setting.moment c.args.setting.config.now.nodes seat.s
    (at (shared_of g.B.Backend.meaning world.gate.state world.tables world.count world.shelf.items) machine c.args.book.now.journal) (at (shared_of g.B.Backend.meaning new.gate.state new.tables new.count new.shelf.items) (machine_in c.gate_answer.new.self) book.journal)
    (speech seat c.args.book.now.lines) (speech (record seat { core = c.gate_answer.new.self }) book.lines) c.args.b line.0 answer
    (detached_place c.args.setting.tables.now seat.s machine (machine_in c.gate_answer.new.self) (shared_of g.B.Backend.meaning world.gate.state world.tables world.count world.shelf.items) (shared_of g.B.Backend.meaning new.gate.state new.tables new.count new.shelf.items)
    c.args.book.now.journal book.journal c.args.b answer c.requires.asked c.in_ok-answer.ensures.answered c.call.ensures.stores c.gate_answer.ensures line)
    (ap (λ (lines : List ℕ). record { view = shown seat.wire; over = seat.over; lines = lines })
    (spoken.2 ∙ ap (λ (cause : Cause). c.args.book.now.lines ++ told_detached c.args.b.number cause answer) (one_cause (next_action machine) line.0 spoken.0 line.1 spoken.1)))

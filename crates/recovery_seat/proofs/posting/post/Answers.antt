use Rattle.std.proofs.Common.{ap}
use Rattle.snapshot_gate.specs.declared.gate.Gate.{Gate}
use Rattle.online_recovery.specs.Asking.{standing_in}
use Rattle.session_seat.specs.Shared.{shared_of}
use Rattle.session_machine.specs.declared.action.SessionEvent.TheVariants as events
use Rattle.recovery_seat.specs.Steps.{at}
use Rattle.recovery_seat.proofs.ArmLemmas.{posted_place}
use Rattle.recovery_seat.proofs.SpeechLemmas.{said, same_lines}
use Rattle.recovery_seat.proofs.posting.post.Goals as goal

pub returns-clause-noted : goal.returns-clause-noted
returns-clause-noted g c = λ machine others.
    let world = c.args.world.now in
    let new = c.post.new.self in
    (posted_place c.args.setting.tables.now c.args.s others machine
    (shared_of g.B.Backend.meaning world.gate.state world.tables world.count world.shelf.items) (shared_of g.B.Backend.meaning new.gate.state new.tables new.count new.shelf.items)
    (standing_in c.args.recovery.now) (standing_in c.posted.new.self) c.args.book.now.journal c.note.new.self.journal c.args.b c.in_ok-request.request
    c.requires.asked c.in_ok-request.ensures.is (ap (λ (gate : Gate). gate.state) c.post.ensures.gate) c.in_ok-post.ensures.idle c.in_ok-post.ensures.posted
    (c.posted.ensures c.args.b c.in_ok-request.request) c.in_default.ensures.line).0

pub returns-clause-speaks : goal.returns-clause-speaks
returns-clause-speaks g c = λ machine others was same.
    let world = c.args.world.now in
    let new = c.post.new.self in
    said c.args.setting.tables.now c.args.setting.moment c.args.setting.config.now.nodes c.args.s others (events.Posted c.args.b c.in_ok-request.request)
    (at (shared_of g.B.Backend.meaning world.gate.state world.tables world.count world.shelf.items) machine (standing_in c.args.recovery.now) c.args.book.now.journal)
    (at (shared_of g.B.Backend.meaning new.gate.state new.tables new.count new.shelf.items) machine (standing_in c.posted.new.self) c.note.new.self.journal)
    was (record was { lines = c.note.new.self.lines })
    (posted_place c.args.setting.tables.now c.args.s others machine
    (shared_of g.B.Backend.meaning world.gate.state world.tables world.count world.shelf.items) (shared_of g.B.Backend.meaning new.gate.state new.tables new.count new.shelf.items)
    (standing_in c.args.recovery.now) (standing_in c.posted.new.self) c.args.book.now.journal c.note.new.self.journal c.args.b c.in_ok-request.request
    c.requires.asked c.in_ok-request.ensures.is (ap (λ (gate : Gate). gate.state) c.post.ensures.gate) c.in_ok-post.ensures.idle c.in_ok-post.ensures.posted
    (c.posted.ensures c.args.b c.in_ok-request.request) c.in_default.ensures.line)
    (same_lines was c.args.book.now.lines c.note.new.self.lines same c.note.ensures.lines)

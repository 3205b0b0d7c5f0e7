use Rattle.std.proofs.Common.{ap}
use Rattle.snapshot_gate.specs.declared.gate.Gate.{Gate}
use Rattle.session_machine.specs.Rules.{next_action}
use Rattle.session_engine.specs.Cores.{machine_in}
use Rattle.session_seat.specs.Shared.{shared_of}
use Rattle.session_seat.specs.Steps.{at}
use Rattle.session_seat.proofs.DueLemmas.{post_stop}
use Rattle.session_seat.proofs.StepLemmas.{post_due, posted_step}
use Rattle.session_seat.proofs.step.post.Goals as goal

pub returns-in-Ok-clause-quiet : goal.returns-in-Ok-clause-quiet
returns-in-Ok-clause-quiet g c =
    let world = c.args.world.now in
    let new = c.send.new.world in
    posted_step c.args.setting.tables.now c.args.seat.now.s
    (at (shared_of g.B.Backend.meaning world.gate.state world.tables world.count world.shelf.items) (machine_in c.args.seat.now.core) c.args.book.now.journal)
    (at (shared_of g.B.Backend.meaning new.gate.state new.tables new.count new.shelf.items) (machine_in c.send.new.seat.core) c.send.new.book.journal)
    c.args.b c.in_ok-request.request c.in-Ok.line c.send.result c.send.ensures.is c.send.ensures.leads c.send.ensures.line
    (ap (λ (gate : Gate). gate.state) c.send.ensures.gate) (c.send.ensures.serves c.args.setting.tables.now)
    (post_due (next_action (machine_in c.args.seat.now.core)) c.args.b c.in_ok-request.request c.requires.asked c.in_ok-request.ensures.is) c.in-Ok.ensures

pub returns-in-Ok-clause-stopped : goal.returns-in-Ok-clause-stopped
returns-in-Ok-clause-stopped g c =
    post_stop c.args.book.now.events c.args.world.now.tables c.args.world.now.count c.args.world.now.rolls (machine_in c.args.seat.now.core) c.args.seat.now.s.number c.args.b.number c.in_ok-request.request c.send.result
    c.in_ok-request.ensures.is c.send.ensures.stopped

use Rattle.std.proofs.Common.{◌∙◌, sym, take}
use Rattle.session_engine.specs.declared.ask.Ask.TheVariants as asks
use Rattle.session_seat.specs.Policy.{policy_in}
use Rattle.session_seat.specs.Stops.{world_view}
use Rattle.session_engine.specs.Cores.{machine_in}
use Rattle.session_wire.specs.Shown.{shown}
use Rattle.session_seat.specs.Shared.{shared_of}
use Rattle.session_seat.specs.Speech.{speech}
use Rattle.session_seat.specs.Steps.{at}
use Rattle.session_seat.proofs.SpeechLemmas.{over_told, quiet_told, said_ok}
use Rattle.session_seat.proofs.DueLemmas.{due_by, due_over, full_stop, stops_by, stops_over}
use Rattle.session_seat.proofs.StepLemmas.{quiet_ok}
use Rattle.session_seat.proofs.step.take_step.Goals as goal

pub returns-then-seat-clause-due : goal.returns-then-seat-clause-due
returns-then-seat-clause-due g c =
    due_over g.B.Backend.meaning g.B.Backend.is_prompt c.args.setting.tables.now c.args.setting.moment c.args.seat.now c.args.world.now.gate.state (take c.args.world.now.count c.args.world.now.shelf.items) c.close.result c.if-seat.true c.close.ensures.closed

pub returns-then-seat-clause-stopped : goal.returns-then-seat-clause-stopped
returns-then-seat-clause-stopped g c =
    stops_over g.B.Backend.meaning g.B.Backend.is_prompt c.args.setting.tables.now c.args.setting.moment (policy_in c.args.setting.config.now) c.args.book.now.events c.args.seat.now
    (world_view c.args.world.now.gate.state c.args.world.now.tables c.args.world.now.count c.args.world.now.shelf.items c.args.world.now.rolls c.args.setting.config.now.nodes) c.close.result c.if-seat.true c.close.ensures.stopped

pub returns-in-Rest-clause-due : goal.returns-in-Rest-clause-due
returns-in-Rest-clause-due g c =
    due_by g.B.Backend.meaning g.B.Backend.is_prompt c.args.setting.tables.now c.args.setting.moment c.args.seat.now c.args.world.now.gate.state (take c.args.world.now.count c.args.world.now.shelf.items) asks.Rest c.take_order.result c.if-seat.false
    (sym c.asks.ensures.is ∙ c.in-Rest.is) c.take_order.ensures.due

pub returns-in-Rest-clause-stopped : goal.returns-in-Rest-clause-stopped
returns-in-Rest-clause-stopped g c =
    stops_by g.B.Backend.meaning g.B.Backend.is_prompt c.args.setting.tables.now c.args.setting.moment (policy_in c.args.setting.config.now) c.args.book.now.events c.args.seat.now
    (world_view c.args.world.now.gate.state c.args.world.now.tables c.args.world.now.count c.args.world.now.shelf.items c.args.world.now.rolls c.args.setting.config.now.nodes) asks.Rest c.take_order.result c.if-seat.false
    (sym c.asks.ensures.is ∙ c.in-Rest.is) c.take_order.ensures.stopped

pub returns-in-Gate-clause-due : goal.returns-in-Gate-clause-due
returns-in-Gate-clause-due g c =
    due_by g.B.Backend.meaning g.B.Backend.is_prompt c.args.setting.tables.now c.args.setting.moment c.args.seat.now c.args.world.now.gate.state (take c.args.world.now.count c.args.world.now.shelf.items) (asks.Gate c.in-Gate.call) c.call_gate.result c.if-seat.false
    (sym c.asks.ensures.is ∙ c.in-Gate.is) c.call_gate.ensures.due

pub returns-in-Gate-clause-stopped : goal.returns-in-Gate-clause-stopped
returns-in-Gate-clause-stopped g c =
    stops_by g.B.Backend.meaning g.B.Backend.is_prompt c.args.setting.tables.now c.args.setting.moment (policy_in c.args.setting.config.now) c.args.book.now.events c.args.seat.now
    (world_view c.args.world.now.gate.state c.args.world.now.tables c.args.world.now.count c.args.world.now.shelf.items c.args.world.now.rolls c.args.setting.config.now.nodes) (asks.Gate c.in-Gate.call) c.call_gate.result c.if-seat.false
    (sym c.asks.ensures.is ∙ c.in-Gate.is) c.call_gate.ensures.stopped

pub returns-in-Post-clause-due : goal.returns-in-Post-clause-due
returns-in-Post-clause-due g c =
    due_by g.B.Backend.meaning g.B.Backend.is_prompt c.args.setting.tables.now c.args.setting.moment c.args.seat.now c.args.world.now.gate.state (take c.args.world.now.count c.args.world.now.shelf.items) (asks.Post c.in-Post.b) c.post.result c.if-seat.false
    (sym c.asks.ensures.is ∙ c.in-Post.is) c.post.ensures.due

pub returns-in-Post-clause-stopped : goal.returns-in-Post-clause-stopped
returns-in-Post-clause-stopped g c =
    stops_by g.B.Backend.meaning g.B.Backend.is_prompt c.args.setting.tables.now c.args.setting.moment (policy_in c.args.setting.config.now) c.args.book.now.events c.args.seat.now
    (world_view c.args.world.now.gate.state c.args.world.now.tables c.args.world.now.count c.args.world.now.shelf.items c.args.world.now.rolls c.args.setting.config.now.nodes) (asks.Post c.in-Post.b) c.post.result c.if-seat.false
    (sym c.asks.ensures.is ∙ c.in-Post.is) c.post.ensures.stopped

pub returns-in-WaitFor-clause-due : goal.returns-in-WaitFor-clause-due
returns-in-WaitFor-clause-due g c =
    due_by g.B.Backend.meaning g.B.Backend.is_prompt c.args.setting.tables.now c.args.setting.moment c.args.seat.now c.args.world.now.gate.state (take c.args.world.now.count c.args.world.now.shelf.items) (asks.WaitFor c.in-WaitFor.b) c.hear.result c.if-seat.false
    (sym c.asks.ensures.is ∙ c.in-WaitFor.is) c.hear.ensures.due

pub returns-in-WaitFor-clause-stopped : goal.returns-in-WaitFor-clause-stopped
returns-in-WaitFor-clause-stopped g c =
    stops_by g.B.Backend.meaning g.B.Backend.is_prompt c.args.setting.tables.now c.args.setting.moment (policy_in c.args.setting.config.now) c.args.book.now.events c.args.seat.now
    (world_view c.args.world.now.gate.state c.args.world.now.tables c.args.world.now.count c.args.world.now.shelf.items c.args.world.now.rolls c.args.setting.config.now.nodes) (asks.WaitFor c.in-WaitFor.b) c.hear.result c.if-seat.false
    (sym c.asks.ensures.is ∙ c.in-WaitFor.is) c.hear.ensures.stopped

pub returns-in-Detach-clause-due : goal.returns-in-Detach-clause-due
returns-in-Detach-clause-due g c =
    due_by g.B.Backend.meaning g.B.Backend.is_prompt c.args.setting.tables.now c.args.setting.moment c.args.seat.now c.args.world.now.gate.state (take c.args.world.now.count c.args.world.now.shelf.items) (asks.Detach c.in-Detach.b) c.detach.result c.if-seat.false
    (sym c.asks.ensures.is ∙ c.in-Detach.is) c.detach.ensures.due

pub returns-in-Detach-clause-stopped : goal.returns-in-Detach-clause-stopped
returns-in-Detach-clause-stopped g c =
    stops_by g.B.Backend.meaning g.B.Backend.is_prompt c.args.setting.tables.now c.args.setting.moment (policy_in c.args.setting.config.now) c.args.book.now.events c.args.seat.now
    (world_view c.args.world.now.gate.state c.args.world.now.tables c.args.world.now.count c.args.world.now.shelf.items c.args.world.now.rolls c.args.setting.config.now.nodes) (asks.Detach c.in-Detach.b) c.detach.result c.if-seat.false
    (sym c.asks.ensures.is ∙ c.in-Detach.is) (full_stop c.args.book.now.events ⊥ c.detach.result c.detach.ensures.stopped)

pub returns-in-Reply-clause-due : goal.returns-in-Reply-clause-due
returns-in-Reply-clause-due g c =
    due_by g.B.Backend.meaning g.B.Backend.is_prompt c.args.setting.tables.now c.args.setting.moment c.args.seat.now c.args.world.now.gate.state (take c.args.world.now.count c.args.world.now.shelf.items) asks.Reply c.reply.result c.if-seat.false
    (sym c.asks.ensures.is ∙ c.in-Reply.is) c.reply.ensures.due

pub returns-in-Reply-clause-stopped : goal.returns-in-Reply-clause-stopped
returns-in-Reply-clause-stopped g c =
    stops_by g.B.Backend.meaning g.B.Backend.is_prompt c.args.setting.tables.now c.args.setting.moment (policy_in c.args.setting.config.now) c.args.book.now.events c.args.seat.now
    (world_view c.args.world.now.gate.state c.args.world.now.tables c.args.world.now.count c.args.world.now.shelf.items c.args.world.now.rolls c.args.setting.config.now.nodes) asks.Reply c.reply.result c.if-seat.false
    (sym c.asks.ensures.is ∙ c.in-Reply.is) c.reply.ensures.stopped

pub returns-in-End-clause-due : goal.returns-in-End-clause-due
returns-in-End-clause-due g c =
    due_by g.B.Backend.meaning g.B.Backend.is_prompt c.args.setting.tables.now c.args.setting.moment c.args.seat.now c.args.world.now.gate.state (take c.args.world.now.count c.args.world.now.shelf.items) asks.End c.end.result c.if-seat.false
    (sym c.asks.ensures.is ∙ c.in-End.is) c.end.ensures.due

pub returns-in-End-clause-stopped : goal.returns-in-End-clause-stopped
returns-in-End-clause-stopped g c =
    stops_by g.B.Backend.meaning g.B.Backend.is_prompt c.args.setting.tables.now c.args.setting.moment (policy_in c.args.setting.config.now) c.args.book.now.events c.args.seat.now
    (world_view c.args.world.now.gate.state c.args.world.now.tables c.args.world.now.count c.args.world.now.shelf.items c.args.world.now.rolls c.args.setting.config.now.nodes) asks.End c.end.result c.if-seat.false
    (sym c.asks.ensures.is ∙ c.in-End.is) (full_stop c.args.book.now.events ⊥ c.end.result c.end.ensures.stopped)

pub returns-then-seat-clause-speaks : goal.returns-then-seat-clause-speaks
returns-then-seat-clause-speaks g c =
    let world = c.args.world.now in
    over_told c.args.setting.tables.now c.args.setting.moment c.args.setting.config.now.nodes (policy_in c.args.setting.config.now) c.args.seat.now.s (shared_of g.B.Backend.meaning world.gate.state world.tables world.count world.shelf.items) (machine_in c.args.seat.now.core)
    c.args.book.now.journal c.close.new.book.journal (speech c.args.seat.now c.args.book.now.lines) c.close.new.book.lines c.close.result (c.close.ensures.noted (shared_of g.B.Backend.meaning world.gate.state world.tables world.count world.shelf.items)) c.close.ensures.closed c.if-seat.true c.close.ensures.lines

pub returns-in-Rest-clause-speaks : goal.returns-in-Rest-clause-speaks
returns-in-Rest-clause-speaks g c = let world = c.args.world.now in c.take_order.ensures.speaks c.if-seat.false (shared_of g.B.Backend.meaning world.gate.state world.tables world.count world.shelf.items)

pub returns-in-Reply-clause-speaks : goal.returns-in-Reply-clause-speaks
returns-in-Reply-clause-speaks g c = let world = c.args.world.now in c.reply.ensures.speaks (shared_of g.B.Backend.meaning world.gate.state world.tables world.count world.shelf.items)

pub returns-in-End-clause-speaks : goal.returns-in-End-clause-speaks
returns-in-End-clause-speaks g c = let world = c.args.world.now in c.end.ensures.speaks (shared_of g.B.Backend.meaning world.gate.state world.tables world.count world.shelf.items)

pub returns-in-Gate-clause-speaks : goal.returns-in-Gate-clause-speaks
returns-in-Gate-clause-speaks g c =
    let world = c.args.world.now in
    let new = c.call_gate.new.world in
    quiet_told c.args.setting.tables.now c.args.setting.moment c.args.setting.config.now.nodes (policy_in c.args.setting.config.now) c.args.seat.now.s
    (at (shared_of g.B.Backend.meaning world.gate.state world.tables world.count world.shelf.items) (machine_in c.args.seat.now.core) c.args.book.now.journal) (at (shared_of g.B.Backend.meaning new.gate.state new.tables new.count new.shelf.items) (machine_in c.call_gate.new.seat.core) c.call_gate.new.book.journal)
    (speech c.args.seat.now c.args.book.now.lines) (speech c.call_gate.new.seat c.call_gate.new.book.lines) c.call_gate.result
    (λ i. record { view = shown (c.call_gate.ensures.wire i); over = c.call_gate.ensures.over i; lines = c.call_gate.ensures.lines i }) c.call_gate.ensures.quiet

pub returns-in-Post-clause-speaks : goal.returns-in-Post-clause-speaks
returns-in-Post-clause-speaks g c =
    let world = c.args.world.now in
    let new = c.post.new.world in
    quiet_told c.args.setting.tables.now c.args.setting.moment c.args.setting.config.now.nodes (policy_in c.args.setting.config.now) c.args.seat.now.s
    (at (shared_of g.B.Backend.meaning world.gate.state world.tables world.count world.shelf.items) (machine_in c.args.seat.now.core) c.args.book.now.journal) (at (shared_of g.B.Backend.meaning new.gate.state new.tables new.count new.shelf.items) (machine_in c.post.new.seat.core) c.post.new.book.journal)
    (speech c.args.seat.now c.args.book.now.lines) (speech c.post.new.seat c.post.new.book.lines) c.post.result
    (λ i. record { view = shown (c.post.ensures.wire i); over = c.post.ensures.over i; lines = c.post.ensures.lines i }) c.post.ensures.quiet

pub returns-in-WaitFor-clause-speaks : goal.returns-in-WaitFor-clause-speaks
returns-in-WaitFor-clause-speaks g c =
    let world = c.args.world.now in
    let new = c.hear.new.world in
    quiet_told c.args.setting.tables.now c.args.setting.moment c.args.setting.config.now.nodes (policy_in c.args.setting.config.now) c.args.seat.now.s
    (at (shared_of g.B.Backend.meaning world.gate.state world.tables world.count world.shelf.items) (machine_in c.args.seat.now.core) c.args.book.now.journal) (at (shared_of g.B.Backend.meaning new.gate.state new.tables new.count new.shelf.items) (machine_in c.hear.new.seat.core) c.hear.new.book.journal)
    (speech c.args.seat.now c.args.book.now.lines) (speech c.hear.new.seat c.hear.new.book.lines) c.hear.result
    (λ i. record { view = shown (c.hear.ensures.wire i); over = c.hear.ensures.over i; lines = c.hear.ensures.lines i }) c.hear.ensures.quiet

pub returns-in-Rest-clause-noted : goal.returns-in-Rest-clause-noted
returns-in-Rest-clause-noted g c =
    let world = c.args.world.now in
    let new = c.args.world.now in
    said_ok c.args.setting.tables.now c.args.setting.moment c.args.setting.config.now.nodes (policy_in c.args.setting.config.now) c.args.seat.now.s (at (shared_of g.B.Backend.meaning world.gate.state world.tables world.count world.shelf.items) (machine_in c.args.seat.now.core) c.args.book.now.journal)
    (at (shared_of g.B.Backend.meaning new.gate.state new.tables new.count new.shelf.items) (machine_in c.take_order.new.seat.core) c.take_order.new.book.journal) (speech c.args.seat.now c.args.book.now.lines) (speech c.take_order.new.seat c.take_order.new.book.lines) c.take_order.result (returns-in-Rest-clause-speaks g c)

pub returns-in-Gate-clause-noted : goal.returns-in-Gate-clause-noted
returns-in-Gate-clause-noted g c =
    let world = c.args.world.now in
    let new = c.call_gate.new.world in
    quiet_ok c.args.setting.tables.now (policy_in c.args.setting.config.now) c.args.seat.now.s (at (shared_of g.B.Backend.meaning world.gate.state world.tables world.count world.shelf.items) (machine_in c.args.seat.now.core) c.args.book.now.journal)
    (at (shared_of g.B.Backend.meaning new.gate.state new.tables new.count new.shelf.items) (machine_in c.call_gate.new.seat.core) c.call_gate.new.book.journal) c.call_gate.result c.call_gate.ensures.quiet

pub returns-in-Post-clause-noted : goal.returns-in-Post-clause-noted
returns-in-Post-clause-noted g c =
    let world = c.args.world.now in
    let new = c.post.new.world in
    quiet_ok c.args.setting.tables.now (policy_in c.args.setting.config.now) c.args.seat.now.s (at (shared_of g.B.Backend.meaning world.gate.state world.tables world.count world.shelf.items) (machine_in c.args.seat.now.core) c.args.book.now.journal)
    (at (shared_of g.B.Backend.meaning new.gate.state new.tables new.count new.shelf.items) (machine_in c.post.new.seat.core) c.post.new.book.journal) c.post.result c.post.ensures.quiet

pub returns-in-WaitFor-clause-noted : goal.returns-in-WaitFor-clause-noted
returns-in-WaitFor-clause-noted g c =
    let world = c.args.world.now in
    let new = c.hear.new.world in
    quiet_ok c.args.setting.tables.now (policy_in c.args.setting.config.now) c.args.seat.now.s (at (shared_of g.B.Backend.meaning world.gate.state world.tables world.count world.shelf.items) (machine_in c.args.seat.now.core) c.args.book.now.journal)
    (at (shared_of g.B.Backend.meaning new.gate.state new.tables new.count new.shelf.items) (machine_in c.hear.new.seat.core) c.hear.new.book.journal) c.hear.result c.hear.ensures.quiet

pub returns-in-Detach-clause-noted : goal.returns-in-Detach-clause-noted
returns-in-Detach-clause-noted g c =
    let world = c.args.world.now in
    let new = c.detach.new.world in
    said_ok c.args.setting.tables.now c.args.setting.moment c.args.setting.config.now.nodes (policy_in c.args.setting.config.now) c.args.seat.now.s (at (shared_of g.B.Backend.meaning world.gate.state world.tables world.count world.shelf.items) (machine_in c.args.seat.now.core) c.args.book.now.journal)
    (at (shared_of g.B.Backend.meaning new.gate.state new.tables new.count new.shelf.items) (machine_in c.detach.new.seat.core) c.detach.new.book.journal) (speech c.args.seat.now c.args.book.now.lines) (speech c.detach.new.seat c.detach.new.book.lines) c.detach.result c.detach.ensures.speaks

pub returns-in-Reply-clause-noted : goal.returns-in-Reply-clause-noted
returns-in-Reply-clause-noted g c =
    let world = c.args.world.now in
    let new = c.args.world.now in
    said_ok c.args.setting.tables.now c.args.setting.moment c.args.setting.config.now.nodes (policy_in c.args.setting.config.now) c.args.seat.now.s (at (shared_of g.B.Backend.meaning world.gate.state world.tables world.count world.shelf.items) (machine_in c.args.seat.now.core) c.args.book.now.journal)
    (at (shared_of g.B.Backend.meaning new.gate.state new.tables new.count new.shelf.items) (machine_in c.reply.new.seat.core) c.reply.new.book.journal) (speech c.args.seat.now c.args.book.now.lines) (speech c.reply.new.seat c.reply.new.book.lines) c.reply.result (returns-in-Reply-clause-speaks g c)

pub returns-in-End-clause-noted : goal.returns-in-End-clause-noted
returns-in-End-clause-noted g c =
    let world = c.args.world.now in
    let new = c.args.world.now in
    said_ok c.args.setting.tables.now c.args.setting.moment c.args.setting.config.now.nodes (policy_in c.args.setting.config.now) c.args.seat.now.s (at (shared_of g.B.Backend.meaning world.gate.state world.tables world.count world.shelf.items) (machine_in c.args.seat.now.core) c.args.book.now.journal)
    (at (shared_of g.B.Backend.meaning new.gate.state new.tables new.count new.shelf.items) (machine_in c.end.new.seat.core) c.end.new.book.journal) (speech c.args.seat.now c.args.book.now.lines) (speech c.end.new.seat c.end.new.book.lines) c.end.result (returns-in-End-clause-speaks g c)

use Rattle.std.proofs.Common.{List, ◌∙◌, sym, ap}
use Rattle.schema.specs.declared.catalogue.TableDef.{TableDef}
use Rattle.backend_trait.specs.Rows.{with_at}
use Rattle.backend_trait.specs.Store.{prepared}
use Rattle.snapshot_gate.specs.declared.gate.Gate.{Gate}
use Rattle.session_engine.specs.Cores.{machine_in}
use Rattle.online_recovery.specs.Asking.{standing_in}
use Rattle.session_seat.specs.Shared.{shared_of, stores_of}
use Rattle.session_machine.specs.declared.action.SessionEvent.TheVariants as events
use Rattle.recovery_seat.specs.Steps.{at}
use Rattle.recovery_seat.proofs.ArmLemmas.{swapped_place}
use Rattle.recovery_seat.proofs.SpeechLemmas.{said, same_lines}
use Rattle.recovery_seat.proofs.swapping.swap.Goals as goal

pub returns-clause-noted : goal.returns-clause-noted
returns-clause-noted g c =
    let world = c.args.world.now in
    let new = c.swap.new.self in
    (swapped_place c.args.setting.tables.now c.args.seat.now.s c.args.others.bits (machine_in c.args.seat.now.core)
    (shared_of g.B.Backend.meaning world.gate.state world.tables world.count world.shelf.items) (shared_of g.B.Backend.meaning new.gate.state new.tables new.count new.shelf.items)
    (standing_in c.args.recovery.now) (standing_in c.swapped.new.self) c.args.book.now.journal c.note.new.self.journal c.args.b
    c.requires.asked (ap (λ (gate : Gate). gate.state) c.swap.ensures.gate) c.in_ok-swap.ensures.detached (sym c.has.ensures ∙ c.if-has.false) (c.is_at.ensures c.if-is_at.false)
    (c.in_ok-swap.ensures.swapped ∙ ap (λ (tables : List TableDef). with_at (stores_of g.B.Backend.meaning world.tables world.count world.shelf.items) c.args.b.number (prepared tables)) c.requires.tables)
    (c.swapped.ensures c.args.b) c.in_ok-note.ensures.line).0

pub returns-clause-speaks : goal.returns-clause-speaks
returns-clause-speaks g c = λ was same.
    let world = c.args.world.now in
    let new = c.swap.new.self in
    said c.args.setting.tables.now c.args.setting.moment c.args.setting.config.now.nodes c.args.seat.now.s c.args.others.bits (events.Swapped c.args.b)
    (at (shared_of g.B.Backend.meaning world.gate.state world.tables world.count world.shelf.items) (machine_in c.args.seat.now.core) (standing_in c.args.recovery.now) c.args.book.now.journal)
    (at (shared_of g.B.Backend.meaning new.gate.state new.tables new.count new.shelf.items) (machine_in c.args.seat.now.core) (standing_in c.swapped.new.self) c.note.new.self.journal)
    was (record was { lines = c.note.new.self.lines })
    (swapped_place c.args.setting.tables.now c.args.seat.now.s c.args.others.bits (machine_in c.args.seat.now.core)
    (shared_of g.B.Backend.meaning world.gate.state world.tables world.count world.shelf.items) (shared_of g.B.Backend.meaning new.gate.state new.tables new.count new.shelf.items)
    (standing_in c.args.recovery.now) (standing_in c.swapped.new.self) c.args.book.now.journal c.note.new.self.journal c.args.b
    c.requires.asked (ap (λ (gate : Gate). gate.state) c.swap.ensures.gate) c.in_ok-swap.ensures.detached (sym c.has.ensures ∙ c.if-has.false) (c.is_at.ensures c.if-is_at.false)
    (c.in_ok-swap.ensures.swapped ∙ ap (λ (tables : List TableDef). with_at (stores_of g.B.Backend.meaning world.tables world.count world.shelf.items) c.args.b.number (prepared tables)) c.requires.tables)
    (c.swapped.ensures c.args.b) c.in_ok-note.ensures.line)
    (same_lines was c.args.book.now.lines c.note.new.self.lines same c.note.ensures.lines)

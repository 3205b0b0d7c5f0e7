use Rattle.std.proofs.Common.{◌∙◌, ap, w64}
use Rattle.std.specs.Prelude.{ℤ}
use Rattle.std.proofs.lemmas.Int.{to_z-of_z}
use Rattle.session_orders.specs.declared.order.OrderBody.TheVariants as orders
use Rattle.session_machine.specs.declared.action.SessionEvent.TheVariants as events
use Rattle.session_engine.specs.Cores.{machine_in}
use Rattle.online_recovery.specs.declared.standing.Standing.{Standing}
use Rattle.online_recovery.specs.Rules.{after}
use Rattle.session_seat.specs.Shared.{shared_of}
use Rattle.session_seat.specs.Told.{added, told_of}
use Rattle.recovery_seat.specs.Places.{standing_at, standing_of}
use Rattle.recovery_seat.proofs.ArmLemmas.{ordered_place, shared_kept}
use Rattle.recovery_seat.proofs.LayoutLemmas.{one_layout}
use Rattle.recovery_seat.proofs.StepLemmas.{standing_none, standing_some}
use Rattle.recovery_seat.proofs.ordering.begin.Goals as goal

pub returns-clause-ordered : goal.returns-clause-ordered
returns-clause-ordered g c = λ layout others is.
    let world = c.args.world.now in
    let new = c.set_aside-place.new.self in
    let place = c.args.place.now in
    let event = events.Ordered (record { moment = c.args.moment; body = orders.Recover c.args.number }) in
    ordered_place c.args.setting.tables.now place.seat.s others (machine_in place.seat.core)
    (shared_of g.B.Backend.meaning world.gate.state world.tables world.count world.shelf.items) (shared_of g.B.Backend.meaning new.gate.state new.tables new.count new.shelf.items)
    (standing_of layout place) (standing_at layout place.seat.s c.replace.new.dest) c.args.book.now.journal c.note_order.new.book.journal layout c.in_ok-layout.layout c.args.moment c.args.number
    (standing_none layout place.seat.s place.recovery c.requires.none) (one_layout c.args.setting.config.now c.args.setting.tables.now c.in_ok-layout.layout layout c.in_ok-layout.ensures is) c.requires.outside
    (shared_kept g.B.Backend.meaning world.gate new.gate world.tables new.tables world.count new.count world.shelf.items new.shelf.items c.set_aside-place.ensures.gate c.set_aside-place.ensures.tables c.set_aside-place.ensures.count c.set_aside-place.ensures.boxes)
    (standing_some layout place.seat.s c.replace.new.dest c.start.new.self c.replace.ensures.after ∙ (c.start.ensures c.args.moment ∙ ap (λ (r : Standing). after r event) c.new-recovery.ensures))
    (c.in_ok-note_order.ensures.line
    ∙ ap (λ (m : ℤ). added c.args.book.now.journal (told_of c.args.setting.tables.now place.seat.s (events.Ordered (record { moment = m; body = orders.Recover c.args.number })))) (to_z-of_z w64 c.args.moment c.ranges.moment))

pub returns-clause-noted : goal.returns-clause-noted
returns-clause-noted g c = λ layout others is.
    let world = c.args.world.now in
    let new = c.set_aside-place.new.self in
    let place = c.args.place.now in
    let event = events.Ordered (record { moment = c.args.moment; body = orders.Recover c.args.number }) in
    (ordered_place c.args.setting.tables.now place.seat.s others (machine_in place.seat.core)
    (shared_of g.B.Backend.meaning world.gate.state world.tables world.count world.shelf.items) (shared_of g.B.Backend.meaning new.gate.state new.tables new.count new.shelf.items)
    (standing_of layout place) (standing_at layout place.seat.s c.replace.new.dest) c.args.book.now.journal c.note_order.new.book.journal layout c.in_ok-layout.layout c.args.moment c.args.number
    (standing_none layout place.seat.s place.recovery c.requires.none) (one_layout c.args.setting.config.now c.args.setting.tables.now c.in_ok-layout.layout layout c.in_ok-layout.ensures is) c.requires.outside
    (shared_kept g.B.Backend.meaning world.gate new.gate world.tables new.tables world.count new.count world.shelf.items new.shelf.items c.set_aside-place.ensures.gate c.set_aside-place.ensures.tables c.set_aside-place.ensures.count c.set_aside-place.ensures.boxes)
    (standing_some layout place.seat.s c.replace.new.dest c.start.new.self c.replace.ensures.after ∙ (c.start.ensures c.args.moment ∙ ap (λ (r : Standing). after r event) c.new-recovery.ensures))
    (c.in_ok-note_order.ensures.line
    ∙ ap (λ (m : ℤ). added c.args.book.now.journal (told_of c.args.setting.tables.now place.seat.s (events.Ordered (record { moment = m; body = orders.Recover c.args.number })))) (to_z-of_z w64 c.args.moment c.ranges.moment))).0

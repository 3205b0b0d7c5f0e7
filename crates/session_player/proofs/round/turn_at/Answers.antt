use Rattle.std.proofs.Common.{◌≡◌, ◌<◌, ℕ, false, sym, subst, arith, rules}
use Rattle.std.specs.Prelude.{OnOk}
use Rattle.std.proofs.lemmas.Result.{on_ok_weaker}
use Rattle.pool_base.specs.declared.session_id.SessionId.{SessionId}
use Rattle.session_seat.specs.Policy.{policy_in}
use Rattle.session_seat.specs.Shared.{shared_of}
use Rattle.recovery_seat.specs.Steps.{at}
use Rattle.session_player.specs.declared.slots.Slot.{Slot}
use Rattle.session_player.specs.Journals.{machine_in_slot, standing_in_slot}
use Rattle.session_player.specs.Slots.{IsPlaced}
use Rattle.session_player.proofs.Fitting.{fits_others}
use Rattle.session_player.proofs.Going.{slot_read, session_number, session_of}
use Rattle.session_player.proofs.Placing.{placed_anew, placed_here}
use Rattle.session_player.specs.Speaking.{SpokeAlone, hearer_in, spot}
use Rattle.session_player.proofs.Speaking.{spoke_slot}
use Rattle.session_player.specs.Stillness.{IsSlotStill}
use Rattle.session_player.proofs.Stilling.{set_others, set_still}
use Rattle.session_player.proofs.round.turn_at.Goals as goal

pub returns-clause-placed : goal.returns-clause-placed
returns-clause-placed g c =
    let slot = c.index-slots-at-2.result in
    let Keeps : Slot → Type 0 = λ old. (before : ℕ) → IsPlaced before old → IsPlaced before c.turn.new.slot in
    placed_anew c.args.slots.now c.args.at slot c.turn.new.slot c.requires.placed c.requires.below c.index-slots-at-2.is (subst Keeps (sym c.index-slots-at-2.is) c.turn.ensures.placed)

pub returns-clause-speaks : goal.returns-clause-speaks
returns-clause-speaks g c = λ layout is.
    let tables = c.args.setting.tables.now in
    let moment = c.args.setting.moment in
    let nodes = c.args.setting.config.now.nodes in
    let slots = c.args.slots.now in
    let place = c.args.at in
    let slot = c.index-slots-at-2.result in
    let policy = policy_in c.args.setting.config.now in
    let old = shared_of g.B.Backend.meaning c.args.world.now.gate.state c.args.world.now.tables c.args.world.now.count c.args.world.now.shelf.items in
    let new = shared_of g.B.Backend.meaning c.turn.new.world.gate.state c.turn.new.world.tables c.turn.new.world.count c.turn.new.world.shelf.items in
    let few : place < 64 = omega (arith, c.requires.below, c.requires.few) in
    let s : SessionId = session_of place few in
    let others = c.others_of-others.result.bits in
    let Does : Slot → Type 0 = λ before. IsPlaced place before
    → OnOk c.turn.result (SpokeAlone tables moment nodes s others (spot (at old (machine_in_slot policy s before) (standing_in_slot layout s before) c.args.book.now.journal) (hearer_in before) c.args.book.now.lines)
    (spot (at new (machine_in_slot policy s c.turn.new.slot) (standing_in_slot layout s c.turn.new.slot) c.turn.new.book.journal) (hearer_in c.turn.new.slot) c.turn.new.book.lines)) in
    on_ok_weaker c.turn.result
    (spoke_slot tables moment nodes policy layout slots place slot c.turn.new.slot s others old new c.args.book.now.journal c.turn.new.book.journal c.args.book.now.lines c.turn.new.book.lines
    (session_number place few) c.requires.below c.index-slots-at-2.is (fits_others policy layout slots others place s (session_number place few) c.others_of-others.ensures))
    (subst Does (sym c.index-slots-at-2.is) (c.turn.ensures.speaks layout is place s (session_number place few)) (placed_here slots place slot c.requires.placed c.requires.below c.index-slots-at-2.is))

pub returns-then-not-is_due-clause-still : goal.returns-then-not-is_due-clause-still
returns-then-not-is_due-clause-still g c = λ layout is.
    let slot = c.index-slots-at.result in
    let world = c.args.world.now in
    let shared = shared_of g.B.Backend.meaning world.gate.state world.tables world.count world.shelf.items in
    subst (IsSlotStill shared layout) (sym (slot_read c.args.slots.now c.args.at slot c.requires.below c.index-slots-at.is))
    (let none : c.is_due.result ≡ false = search rules in subst (IsSlotStill shared layout) (sym c.index-slots-at.is) (c.is_due.ensures.others none shared layout))

pub returns-clause-still : goal.returns-clause-still
returns-clause-still g c = λ layout is.
    on_ok_weaker c.turn.result (set_still (shared_of g.B.Backend.meaning c.turn.new.world.gate.state c.turn.new.world.tables c.turn.new.world.count c.turn.new.world.shelf.items) layout c.args.slots.now c.args.at c.turn.new.slot c.requires.below) (c.turn.ensures.still layout is)

pub returns-clause-others : goal.returns-clause-others
returns-clause-others g c = λ j other. set_others c.args.slots.now c.args.at c.turn.new.slot j other

use Rattle.std.proofs.Common.{◌≡◌, ◌<◌, ◌∙◌, suc, length, set, ap, refl, sym, subst, arith}
use Rattle.std.proofs.lemmas.Result.{on_ok_weaker}
use Rattle.session_player.specs.Speaking.{hearers_of}
use Rattle.session_player.specs.Transcript.{count_to}
use Rattle.pool_base.specs.declared.session_id.SessionId.{SessionId}
use Rattle.session_player.specs.declared.slots.Slot.{Slot}
use Rattle.session_player.specs.declared.slots.Slot.TheVariants.{Taken}
use Rattle.session_player.specs.Slots.{ArePlaced}
use Rattle.session_seat.specs.Policy.{policy_in}
use Rattle.session_player.proofs.Going.{connected, connected_at_rest}
use Rattle.session_player.proofs.Placing.{placed_with}
use Rattle.session_player.proofs.Counting.{is_busy, is_full, is_joined}
use Rattle.session_player.proofs.connecting.connect.Goals as goal

pub invariant_of-seats-clause-placed : goal.invariant_of-seats-clause-placed
invariant_of-seats-clause-placed c =
    let seats = c.args.seats.now in
    let place = c.place_of-place.result in
    let client = c.in_ok-client.client in
    let same : client.place.seat.s.number ≡ c.args.s.number = ap (λ (s : SessionId). s.number) c.in_ok-client.ensures.s in
    let here : client.place.seat.s.number ≡ suc place = omega (arith, same, c.place_of-place.ensures.place) in
    subst (λ (slot : Slot). ArePlaced 0 (set seats.slots.items place slot)) (sym c.put.ensures) (placed_with seats.slots.items place (Taken client) seats.placed here)

pub returns-clause-machines : goal.returns-clause-machines
returns-clause-machines c =
    let seats = c.args.seats.now in
    let place = c.place_of-place.result in
    let client = c.in_ok-client.client in
    let below : place < length seats.slots.items = omega (arith, seats.whole, c.place_of-place.ensures.below) in
    let own : c.args.s.number ≡ suc place = omega (arith, c.place_of-place.ensures.place) in
    connected (policy_in c.args.setting.config.now) seats.slots.items place c.index.result.now c.index_mut.result.now c.put.new.slot client c.args.s below own c.index.ensures c.index_mut.ensures.value
    (sym c.is_taken.ensures ∙ c.if-is_taken.false) c.put.ensures c.in_ok-client.ensures.core

pub returns-clause-standings : goal.returns-clause-standings
returns-clause-standings c = λ layout.
    let seats = c.args.seats.now in
    let place = c.place_of-place.result in
    let client = c.in_ok-client.client in
    let below : place < length seats.slots.items = omega (arith, seats.whole, c.place_of-place.ensures.below) in
    let own : c.args.s.number ≡ suc place = omega (arith, c.place_of-place.ensures.place) in
    connected_at_rest layout seats.slots.items place c.index.result.now c.index_mut.result.now c.put.new.slot client c.args.s below own c.index.ensures c.index_mut.ensures.value
    (sym c.is_taken.ensures ∙ c.if-is_taken.false) c.put.ensures (c.in_ok-client.ensures.at_rest layout)

pub returns-then-is_taken-clause-connects : goal.returns-then-is_taken-clause-connects
returns-then-is_taken-clause-connects c =
    let seats = c.args.seats.now in
    let place = c.place_of-place.result in
    let below : place < length seats.slots.items = omega (arith, seats.whole, c.place_of-place.ensures.below) in
    let own : c.args.s.number ≡ suc place = omega (arith, c.place_of-place.ensures.place) in
    let counted = count_to (hearers_of seats.slots.items) 64 in
    on_ok_weaker c.tell_busy.result
    (is_busy c.args.setting.config.now.children seats.slots.items place c.index.result.now c.args.s c.args.book.now.lines c.tell_busy.new.book.lines own below c.index.ensures (sym c.is_taken.ensures ∙ c.if-is_taken.true)) c.tell_busy.ensures.lines

pub returns-then-is_full-clause-connects : goal.returns-then-is_full-clause-connects
returns-then-is_full-clause-connects c =
    let seats = c.args.seats.now in
    let place = c.place_of-place.result in
    let below : place < length seats.slots.items = omega (arith, seats.whole, c.place_of-place.ensures.below) in
    let own : c.args.s.number ≡ suc place = omega (arith, c.place_of-place.ensures.place) in
    let counted = count_to (hearers_of seats.slots.items) 64 in
    on_ok_weaker c.tell_full.result
    (is_full c.args.setting.config.now.children counted seats.slots.items place c.index.result.now c.args.s c.args.book.now.lines c.tell_full.new.book.lines own below c.index.ensures (sym c.is_taken.ensures ∙ c.if-is_taken.false) refl
    (c.is_full.ensures.full c.if-is_full.true)) c.tell_full.ensures.lines

pub returns-clause-connects : goal.returns-clause-connects
returns-clause-connects c =
    let seats = c.args.seats.now in
    let place = c.place_of-place.result in
    let below : place < length seats.slots.items = omega (arith, seats.whole, c.place_of-place.ensures.below) in
    let own : c.args.s.number ≡ suc place = omega (arith, c.place_of-place.ensures.place) in
    let counted = count_to (hearers_of seats.slots.items) 64 in
    is_joined c.args.setting.config.now.children counted seats.slots.items place c.index.result.now c.put.new.slot c.in_ok-client.client c.args.s c.args.book.now.lines own below c.index.ensures (sym c.is_taken.ensures ∙ c.if-is_taken.false) refl
    (c.is_full.ensures.room c.if-is_full.false) c.put.ensures c.in_ok-client.ensures.fresh

use Rattle.std.proofs.Common.{◌≡◌, ◌<◌, suc, length, arith, subst}
use Rattle.std.proofs.lemmas.Result.{on_ok_weaker}
use Rattle.recovery_seat.specs.Steps.{Fits}
use Rattle.session_seat.specs.Policy.{policy_in}
use Rattle.session_seat.specs.Shared.{shared_of}
use Rattle.session_player.specs.Journals.{machines_of, standings_of}
use Rattle.session_player.specs.Others.{OthersAreAmong}
use Rattle.session_player.proofs.Fitting.{fits_others}
use Rattle.session_player.proofs.Placing.{placed_anew, placed_here}
use Rattle.session_player.proofs.Speaking.{spoke_slot}
use Rattle.session_player.proofs.round.go_until.Goals as goal

pub invariant_of-seats-clause-placed : goal.invariant_of-seats-clause-placed
invariant_of-seats-clause-placed g c =
    let seats = c.args.seats.now in
    let below : c.place_of-place.result < length seats.slots.items = omega (arith, seats.whole, c.place_of-place.ensures.below) in
    placed_anew seats.slots.items c.place_of-place.result c.index_mut-slot.result.now c.turn_until.new.slot seats.placed below c.index_mut-slot.ensures.value c.turn_until.ensures.placed

pub returns-clause-speaks : goal.returns-clause-speaks
returns-clause-speaks g c = λ layout is.
    let seats = c.args.seats.now in
    let place = c.place_of-place.result in
    let slot = c.index_mut-slot.result.now in
    let policy = policy_in c.args.setting.config.now in
    let old = shared_of g.B.Backend.meaning c.args.world.now.gate.state c.args.world.now.tables c.args.world.now.count c.args.world.now.shelf.items in
    let new = shared_of g.B.Backend.meaning c.turn_until.new.world.gate.state c.turn_until.new.world.tables c.turn_until.new.world.count c.turn_until.new.world.shelf.items in
    let below : place < length seats.slots.items = omega (arith, seats.whole, c.place_of-place.ensures.below) in
    let own : c.args.s.number ≡ suc place = omega (arith, c.place_of-place.ensures.place) in
    let others = c.others_of-others.result.bits in
    let among = subst (OthersAreAmong others place) c.as_slice.ensures.value c.others_of-others.ensures in
    let fits : Fits others c.args.s (machines_of policy seats.slots.items) (standings_of layout seats.slots.items) = fits_others policy layout seats.slots.items others place c.args.s own among in
    on_ok_weaker c.turn_until.result
    (spoke_slot c.args.setting.tables.now c.args.setting.moment c.args.setting.config.now.nodes policy layout seats.slots.items place slot c.turn_until.new.slot c.args.s others old new c.args.book.now.journal
    c.turn_until.new.book.journal c.args.book.now.lines c.turn_until.new.book.lines own below c.index_mut-slot.ensures.value fits) (c.turn_until.ensures.speaks layout is place c.args.s own (placed_here seats.slots.items place slot seats.placed below c.index_mut-slot.ensures.value))

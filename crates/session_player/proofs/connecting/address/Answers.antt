use Rattle.std.proofs.Common.{◌≡◌, ◌<◌, suc, length, arith}
use Rattle.session_player.proofs.Placing.{placed_anew}
use Rattle.session_player.proofs.Counting.{addressed}
use Rattle.session_player.proofs.connecting.address.Goals as goal

pub invariant_of-seats-clause-placed : goal.invariant_of-seats-clause-placed
invariant_of-seats-clause-placed c =
    let seats = c.args.seats.now in
    let below : c.place_of-place.result < length seats.slots.items = omega (arith, seats.whole, c.place_of-place.ensures.below) in
    placed_anew seats.slots.items c.place_of-place.result c.index_mut.result.now c.grant.new.slot seats.placed below c.index_mut.ensures.value c.grant.ensures.placed

pub returns-clause-addresses : goal.returns-clause-addresses
returns-clause-addresses c =
    let seats = c.args.seats.now in
    let place = c.place_of-place.result in
    let below : place < length seats.slots.items = omega (arith, seats.whole, c.place_of-place.ensures.below) in
    let own : c.args.s.number ≡ suc place = omega (arith, c.place_of-place.ensures.place) in
    addressed seats.slots.items place c.index_mut.result.now c.grant.new.slot c.args.s c.args.wish c.in_ok-is_there.is_there c.args.book.now.lines c.tell_gone.new.book.lines own below c.index_mut.ensures.value c.in_ok-is_there.ensures.hears c.in_ok-tell_gone.ensures.lines

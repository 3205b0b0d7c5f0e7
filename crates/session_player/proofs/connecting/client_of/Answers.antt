use Rattle.session_wire.specs.Shown.{shown}
use Rattle.session_player.proofs.connecting.client_of.Goals as goal

pub returns-in-Ok-clause-fresh : goal.returns-in-Ok-clause-fresh
returns-in-Ok-clause-fresh c =
    let place = c.in_ok-place.place in
    (shown place.seat.wire, c.in_ok-place.ensures.fresh, λ i. record { view = c.in-Ok.ensures i; over = c.in_ok-place.ensures.begins i; turn = c.in_ok-place.ensures.turn i })

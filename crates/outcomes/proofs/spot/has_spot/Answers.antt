use Rattle.backend_trait.specs.Keys.{is_place}
use Rattle.outcomes.specs.Spots.{place_of}
use Rattle.outcomes.proofs.Among.{any_found, any_passed}
use Rattle.outcomes.proofs.spot.has_spot.Goals as goal

pub returns-then-is_spot : goal.returns-then-is_spot
returns-then-is_spot c =
    any_found place_of (is_place (place_of c.args.spot.now)) c.args.places.now c.loop-place.place-index c.place-item.result c.is_spot.result c.loop-place-test.true
    c.place-item.is c.loop-place.invariant c.is_spot.ensures c.if-is_spot.true

pub loop-place-preserved : goal.loop-place-preserved
loop-place-preserved c =
    any_passed place_of (is_place (place_of c.args.spot.now)) c.args.places.now c.loop-place.place-index c.place-item.result c.is_spot.result c.loop-place-test.true
    c.place-item.is c.loop-place.invariant c.is_spot.ensures c.if-is_spot.false

use Rattle.outcomes.specs.Log.{has_changed}
use Rattle.outcomes.specs.Spots.{place_of}
use Rattle.outcomes.proofs.Among.{any_found, any_passed}
use Rattle.outcomes.proofs.log.is_any_changed.Goals as goal

pub returns-then-has_changed : goal.returns-then-has_changed
returns-then-has_changed c =
    any_found place_of (has_changed c.args.log.now) c.args.spots.now c.loop-spot.spot-index c.spot-item.result c.has_changed.result c.loop-spot-test.true c.spot-item.is
    c.loop-spot.invariant c.has_changed.ensures c.if-has_changed.true

pub loop-spot-preserved : goal.loop-spot-preserved
loop-spot-preserved c =
    any_passed place_of (has_changed c.args.log.now) c.args.spots.now c.loop-spot.spot-index c.spot-item.result c.has_changed.result c.loop-spot-test.true c.spot-item.is
    c.loop-spot.invariant c.has_changed.ensures c.if-has_changed.false

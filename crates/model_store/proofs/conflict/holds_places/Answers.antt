use Rattle.model_store.proofs.ConflictLaws.{held_found, locked_found, place_passed, places_passed}
use Rattle.model_store.proofs.conflict.holds_places.Goals as goal
use Rattle.model_store.proofs.conflict.holds_places.Goals.{then-work-from-via-then-work-from, then-work-from-via-else-work-from+then-has_spot}

pub returns-then-work-from : goal.returns-then-work-from
returns-then-work-from c =
    elim c.then-work-from.branch [
      | then-work-from-via-then-work-from w ↦
          locked_found c.args.work.now c.args.places.now c.loop-spot.spot-index c.spot-item.result c.from.result c.loop-spot-test.true c.spot-item.is c.loop-spot.invariant c.from.ensures
          w.if-work-from.true
      | then-work-from-via-else-work-from+then-has_spot w ↦
          held_found c.args.work.now c.args.places.now c.loop-spot.spot-index c.spot-item.result c.from.result w.as_slice.result.now w.has_spot.result c.loop-spot-test.true c.spot-item.is
          c.loop-spot.invariant w.as_slice.ensures.value w.has_spot.ensures w.if-has_spot.true
    ]

pub loop-spot-preserved : goal.loop-spot-preserved
loop-spot-preserved c =
    place_passed c.args.work.now c.args.places.now c.loop-spot.spot-index c.spot-item.result c.from.result c.as_slice.result.now c.has_spot.result c.loop-spot-test.true c.spot-item.is
    c.loop-spot.invariant c.from.ensures c.if-work-from.false c.as_slice.ensures.value c.has_spot.ensures c.if-has_spot.false

pub returns : goal.returns
returns c = places_passed c.args.work.now c.args.places.now c.loop-spot.spot-index c.loop-spot.invariant c.loop-spot-test.false

use Rattle.std.proofs.Common.{◌≡◌, take}
use Rattle.std.specs.Prelude.{false}
use Rattle.outcomes.specs.Log.{has_changed}
use Rattle.outcomes.specs.Spots.{place_of}
use Rattle.outcomes.proofs.log.has_changed.Given as goal

abbrev pub invariant-loop-set : goal.invariant-loop-set
invariant-loop-set l = has_changed (take l.set-index l.log) (place_of l.spot) ≡ false

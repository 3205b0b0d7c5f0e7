use Rattle.std.proofs.Common.{◌≡◌, drop, map}
use Rattle.std.specs.List.{list_any}
use Rattle.outcomes.specs.Log.{has_changed}
use Rattle.outcomes.specs.Spots.{place_of}
use Rattle.outcomes.proofs.log.is_any_changed.Given as goal

abbrev pub invariant-loop-spot : goal.invariant-loop-spot
invariant-loop-spot l = list_any (has_changed l.log) (map place_of (drop l.spot-index l.spots)) ≡ list_any (has_changed l.log) (map place_of l.spots)

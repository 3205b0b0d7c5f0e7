use Rattle.std.proofs.Common.{◌≡◌, map}
use Rattle.backend_trait.specs.Keys.{place}
use Rattle.outcomes.specs.Spots.{place_of}
use Rattle.outcomes.proofs.outcome.spots_in.Given as goal

abbrev pub invariant-loop-key : goal.invariant-loop-key
invariant-loop-key l = map place_of l.spots.items ≡ map (place l.table) l.yielded

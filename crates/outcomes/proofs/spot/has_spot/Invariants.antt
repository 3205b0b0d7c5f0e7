use Rattle.std.proofs.Common.{◌≡◌, drop, map}
use Rattle.backend_trait.specs.Effect.{is_among}
use Rattle.outcomes.specs.Spots.{place_of}
use Rattle.outcomes.proofs.spot.has_spot.Given as goal

abbrev pub invariant-loop-place : goal.invariant-loop-place
invariant-loop-place l = is_among (map place_of (drop l.place-index l.places)) (place_of l.spot) ≡ is_among (map place_of l.places) (place_of l.spot)

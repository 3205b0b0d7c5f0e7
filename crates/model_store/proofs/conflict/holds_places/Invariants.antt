use Rattle.std.proofs.Common.{◌≡◌, drop, map}
use Rattle.std.specs.List.{list_any}
use Rattle.outcomes.specs.Spots.{place_of}
use Rattle.model_store.specs.Phases.{held_of}
use Rattle.model_store.proofs.ConflictLaws.{holds_at}
use Rattle.model_store.proofs.conflict.holds_places.Given as goal

abbrev pub invariant-loop-spot : goal.invariant-loop-spot
invariant-loop-spot l = list_any (holds_at (held_of l.work)) (map place_of (drop l.spot-index l.places)) ≡ list_any (holds_at (held_of l.work)) (map place_of l.places)

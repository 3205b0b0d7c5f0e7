use Rattle.std.proofs.Common.{◌≡◌, take, map}
use Rattle.backend_trait.specs.Effect.{place_changed}
use Rattle.outcomes.specs.Spots.{place_of}
use Rattle.outcomes.proofs.outcome.spots_of_changes.Given as goal

abbrev pub invariant-loop-change : goal.invariant-loop-change
invariant-loop-change l = map place_of l.spots.items ≡ map place_changed (take l.change-index l.changes)

use Rattle.std.proofs.Common.{◌≡◌, take}
use Rattle.std.specs.Prelude.{false}
use Rattle.outcomes.specs.Log.{is_changed}
use Rattle.outcomes.specs.Spots.{place_of}
use Rattle.outcomes.proofs.log.is_changed.Given as goal

abbrev pub invariant-loop-change : goal.invariant-loop-change
invariant-loop-change l = is_changed (take l.change-index l.changes) (place_of l.spot) ≡ false

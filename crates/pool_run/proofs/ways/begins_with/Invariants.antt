use Rattle.std.proofs.Common.{◌≡◌, length}
use Rattle.pool_run.specs.Ways.{begins_with}
use Rattle.pool_run.proofs.ways.begins_with.Given as goal

abbrev pub invariant-loop-left : goal.invariant-loop-left
invariant-loop-left l = begins_with l.rest l.left ≡ begins_with l.text l.word

abbrev pub decreases-loop-left : goal.decreases-loop-left
decreases-loop-left l = length l.left

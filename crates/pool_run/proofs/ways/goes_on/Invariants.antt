use Rattle.std.proofs.Common.{◌≡◌, false, length}
use Rattle.pool_run.specs.Ways.{goes_on}
use Rattle.pool_run.proofs.ways.goes_on.Given as goal

abbrev pub invariant-loop-rest : goal.invariant-loop-rest
invariant-loop-rest l = goes_on l.ended l.rest ≡ goes_on false l.text

abbrev pub decreases-loop-rest : goal.decreases-loop-rest
decreases-loop-rest l = length l.rest

use Rattle.std.proofs.Common.{◌≡◌, length}
use Rattle.pool_run.specs.Ways.{unblanked}
use Rattle.pool_run.proofs.ways.unblanked.Given as goal

abbrev pub invariant-loop-rest : goal.invariant-loop-rest
invariant-loop-rest l = unblanked l.rest ≡ unblanked l.text

abbrev pub decreases-loop-rest : goal.decreases-loop-rest
decreases-loop-rest l = length l.rest

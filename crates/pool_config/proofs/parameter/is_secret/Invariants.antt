use Rattle.std.proofs.Common.{◌≡◌, length}
use Rattle.pool_config.specs.Table.{is_secret}
use Rattle.pool_config.proofs.parameter.is_secret.Given as goal

abbrev pub invariant-loop-left : goal.invariant-loop-left
invariant-loop-left l = is_secret l.left ≡ is_secret l.text

abbrev pub decreases-loop-left : goal.decreases-loop-left
decreases-loop-left l = length l.left

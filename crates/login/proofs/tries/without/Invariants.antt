use Rattle.std.proofs.Common.{◌≡◌, ◌++◌, length}
use Rattle.login.specs.Trying.{without}
use Rattle.login.proofs.tries.without.Given as goal

abbrev pub invariant-loop-left : goal.invariant-loop-left
invariant-loop-left l = l.kept ++ without l.address l.at l.left ≡ without l.address l.at l.tries

abbrev pub decreases-loop-left : goal.decreases-loop-left
decreases-loop-left l = length l.left

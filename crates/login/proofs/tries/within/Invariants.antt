use Rattle.std.proofs.Common.{◌≡◌, ◌++◌, length}
use Rattle.login.specs.Trying.{within}
use Rattle.login.proofs.tries.within.Given as goal

abbrev pub invariant-loop-left : goal.invariant-loop-left
invariant-loop-left l = l.kept ++ within l.span l.now l.left ≡ within l.span l.now l.tries

abbrev pub decreases-loop-left : goal.decreases-loop-left
decreases-loop-left l = length l.left

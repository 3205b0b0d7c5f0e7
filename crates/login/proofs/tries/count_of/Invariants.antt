use Rattle.std.proofs.Common.{◌≡◌, ◌≤◌, ◌+◌, length}
use Rattle.login.specs.Trying.{count_of}
use Rattle.login.proofs.tries.count_of.Given as goal

abbrev pub invariant-loop-left : goal.invariant-loop-left
invariant-loop-left l = record {
  all : l.count + count_of l.address l.left ≡ count_of l.address l.tries;
  few : l.count + length l.left ≤ length l.tries;
}

abbrev pub decreases-loop-left : goal.decreases-loop-left
decreases-loop-left l = length l.left

use Rattle.std.proofs.Common.{◌≡◌, length}
use Rattle.serve_base.specs.Start.{first_down}
use Rattle.serve_base.proofs.start.first_down.Given as goal

abbrev pub invariant-loop-left : goal.invariant-loop-left
invariant-loop-left l = first_down l.node l.left ≡ first_down l.node l.all

abbrev pub decreases-loop-left : goal.decreases-loop-left
decreases-loop-left l = length l.left

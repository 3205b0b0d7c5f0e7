use Rattle.std.proofs.Common.{◌≡◌, length}
use Rattle.serve_base.specs.Start.{has_line}
use Rattle.serve_base.proofs.start.has_line.Given as goal

abbrev pub invariant-loop-left : goal.invariant-loop-left
invariant-loop-left l = has_line l.node l.left ≡ has_line l.node l.all

abbrev pub decreases-loop-left : goal.decreases-loop-left
decreases-loop-left l = length l.left

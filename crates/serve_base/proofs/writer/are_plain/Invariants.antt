use Rattle.std.proofs.Common.{◌≡◌, length}
use Rattle.serve_base.specs.Status.{are_plain}
use Rattle.serve_base.proofs.writer.are_plain.Given as goal

abbrev pub invariant-loop-left : goal.invariant-loop-left
invariant-loop-left l = are_plain l.left ≡ are_plain l.all

abbrev pub decreases-loop-left : goal.decreases-loop-left
decreases-loop-left l = length l.left

use Rattle.std.proofs.Common.{◌≡◌, length}
use Rattle.serve_base.specs.Status.{lacks}
use Rattle.serve_base.proofs.writer.lacks.Given as goal

abbrev pub invariant-loop-left : goal.invariant-loop-left
invariant-loop-left l = lacks l.byte l.left ≡ lacks l.byte l.bytes

abbrev pub decreases-loop-left : goal.decreases-loop-left
decreases-loop-left l = length l.left

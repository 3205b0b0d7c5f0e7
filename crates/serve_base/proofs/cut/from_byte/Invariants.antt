use Rattle.std.proofs.Common.{◌≡◌, length}
use Rattle.serve_base.specs.Reader.{from_byte}
use Rattle.serve_base.proofs.cut.from_byte.Given as goal

abbrev pub invariant-loop-left : goal.invariant-loop-left
invariant-loop-left l = from_byte l.byte l.left ≡ from_byte l.byte l.bytes

abbrev pub decreases-loop-left : goal.decreases-loop-left
decreases-loop-left l = length l.left

use Rattle.std.proofs.Common.{◌≡◌, length}
use Rattle.sql_tokens.specs.Pieces.{after_end}
use Rattle.sql_tokens.proofs.sign.after_end.Given as goal

abbrev pub invariant-loop-left : goal.invariant-loop-left
invariant-loop-left l = after_end l.left ≡ after_end l.bytes

abbrev pub decreases-loop-left : goal.decreases-loop-left
decreases-loop-left l = length l.left

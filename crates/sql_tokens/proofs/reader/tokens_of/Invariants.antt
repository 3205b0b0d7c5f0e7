use Rattle.std.proofs.Common.{length}
use Rattle.sql_tokens.proofs.Loop.{Going}
use Rattle.sql_tokens.proofs.reader.tokens_of.Given as goal

abbrev pub invariant-loop-left : goal.invariant-loop-left
invariant-loop-left l = Going l.text l.tokens l.left

abbrev pub decreases-loop-left : goal.decreases-loop-left
decreases-loop-left l = length l.left

use Rattle.std.proofs.Common.{◌↔◌, length}
use Rattle.scram.specs.Words.{AreNameBytes}
use Rattle.scram.proofs.words.are_name_bytes.Given as goal

abbrev pub invariant-loop-left : goal.invariant-loop-left
invariant-loop-left l = AreNameBytes l.name ↔ AreNameBytes l.left

abbrev pub decreases-loop-left : goal.decreases-loop-left
decreases-loop-left l = length l.left

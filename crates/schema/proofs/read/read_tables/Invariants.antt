use Rattle.std.proofs.Common.{length}
use Rattle.schema.proofs.Loop.{Going}
use Rattle.schema.proofs.read.read_tables.Given as goal

abbrev pub invariant-loop-left : goal.invariant-loop-left
invariant-loop-left l = Going l.tokens l.left (l.tables, l.place)

abbrev pub decreases-loop-left : goal.decreases-loop-left
decreases-loop-left l = length l.left

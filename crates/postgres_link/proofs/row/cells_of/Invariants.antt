use Rattle.std.proofs.Common.{length}
use Rattle.postgres_link.proofs.Cells.{IsFrontOf}
use Rattle.postgres_link.proofs.row.cells_of.Given as goal

abbrev pub invariant-columns : goal.invariant-columns
invariant-columns l = IsFrontOf l.kinds l.texts l.cells l.kinds_left l.texts_left

abbrev pub decreases-columns : goal.decreases-columns
decreases-columns l = length l.kinds_left

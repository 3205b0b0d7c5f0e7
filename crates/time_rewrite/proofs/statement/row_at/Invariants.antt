use Rattle.std.proofs.Common.{◌≡◌, map, take}
use Rattle.time_rewrite.specs.Rewriting.{cell_at}
use Rattle.time_rewrite.proofs.statement.row_at.Given as goal

abbrev pub invariant-loop-cell : goal.invariant-loop-cell
invariant-loop-cell l = l.made ≡ map (cell_at l.moment) (take l.cell-index l.cell-items)

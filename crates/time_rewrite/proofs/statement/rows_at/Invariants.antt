use Rattle.std.proofs.Common.{◌≡◌, map, take}
use Rattle.time_rewrite.specs.Rewriting.{cell_at}
use Rattle.time_rewrite.proofs.statement.rows_at.Given as goal

abbrev pub invariant-loop-row : goal.invariant-loop-row
invariant-loop-row l = l.made ≡ map (map (cell_at l.moment)) (take l.row-index l.row-items)

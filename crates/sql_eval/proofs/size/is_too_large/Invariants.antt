use Rattle.std.proofs.Common.{◌≡◌, ◌≤◌, drop, map}
use Rattle.std.specs.Prelude.{nat_lt, sum}
use Rattle.sql_eval.specs.Reads.{cell_size, row_size}
use Rattle.sql_eval.proofs.size.is_too_large.Given as goal

abbrev pub invariant-loop-cell : goal.invariant-loop-cell
invariant-loop-cell l = nat_lt l.room (sum (map cell_size (drop l.cell-index l.row.cells))) ≡ nat_lt 1048000 (row_size l.row)

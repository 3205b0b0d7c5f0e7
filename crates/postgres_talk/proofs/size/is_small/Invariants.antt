use Rattle.std.proofs.Common.{◌≡◌, drop, map}
use Rattle.std.specs.Prelude.{nat_le, sum}
use Rattle.sql_eval.specs.Reads.{cell_size, row_size}
use Rattle.postgres_talk.proofs.size.is_small.Given as goal

abbrev pub invariant-loop-cell : goal.invariant-loop-cell
invariant-loop-cell l = nat_le (sum (map cell_size (drop l.cell-index l.row.cells))) l.room ≡ nat_le (row_size l.row) 1048000

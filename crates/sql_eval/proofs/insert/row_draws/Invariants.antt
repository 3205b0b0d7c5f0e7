use Rattle.std.proofs.Common.{◌≡◌, ◌+◌, drop}
use Rattle.sql_eval.specs.Inserts.{row_draws}
use Rattle.sql_eval.proofs.insert.row_draws.Given as goal

abbrev pub invariant-loop-cell : goal.invariant-loop-cell
invariant-loop-cell l = l.count + row_draws (drop l.cell-index l.cells) ≡ row_draws l.cells

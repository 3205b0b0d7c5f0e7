use Rattle.std.proofs.Common.{arith}
use Rattle.std.proofs.lemmas.List.{at_drop_all}
use Rattle.sql_eval.specs.Inserts.{draws_in, row_draws}
use Rattle.sql_eval.proofs.Counting.{counted_from}
use Rattle.sql_eval.proofs.insert.row_draws.Goals as goal

pub overflow_add-count : goal.overflow_add-count
overflow_add-count c =
    omega (arith, c.loop-cell.invariant, c.draws_in-count.ensures, counted_from draws_in c.args.cells.now c.loop-cell.cell-index c.cell-item.result (omega arith) c.cell-item.is)

pub loop-cell-preserved : goal.loop-cell-preserved
loop-cell-preserved c =
    omega (arith, c.loop-cell.invariant, c.draws_in-count.ensures, counted_from draws_in c.args.cells.now c.loop-cell.cell-index c.cell-item.result (omega arith) c.cell-item.is)

pub returns : goal.returns
returns c = omega (arith, c.loop-cell.invariant, at_drop_all row_draws c.args.cells.now c.loop-cell.cell-index (omega arith))

use Rattle.std.proofs.Common.{ap, arith}
use Rattle.std.proofs.lemmas.List.{at_drop_all}
use Rattle.sql_eval.specs.Inserts.{row_draws, all_draws}
use Rattle.sql_eval.proofs.Counting.{counted_from}
use Rattle.sql_eval.proofs.insert.all_draws.Goals as goal

pub row_draws-count-requires : goal.row_draws-count-requires
row_draws-count-requires c =
    omega (arith, c.loop-row.invariant, ap row_draws c.as_slice.ensures, counted_from row_draws c.args.rows.now c.loop-row.row-index c.row-item.result (omega arith) c.row-item.is)

pub overflow_add-count : goal.overflow_add-count
overflow_add-count c =
    omega (arith, c.loop-row.invariant, c.row_draws-count.ensures, ap row_draws c.as_slice.ensures, counted_from row_draws c.args.rows.now c.loop-row.row-index c.row-item.result (omega arith) c.row-item.is)

pub loop-row-preserved : goal.loop-row-preserved
loop-row-preserved c =
    omega (arith, c.loop-row.invariant, c.row_draws-count.ensures, ap row_draws c.as_slice.ensures, counted_from row_draws c.args.rows.now c.loop-row.row-index c.row-item.result (omega arith) c.row-item.is)

pub returns : goal.returns
returns c = omega (arith, c.loop-row.invariant, at_drop_all all_draws c.args.rows.now c.loop-row.row-index (omega arith))

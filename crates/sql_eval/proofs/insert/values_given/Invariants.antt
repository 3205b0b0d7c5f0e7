use Rattle.std.proofs.Common.{◌≡◌, drop}
use Rattle.std.specs.Prelude.{pos, ◌+ℤ◌, ◌≤ℤ◌}
use Rattle.sql_eval.specs.Walks.{all_of}
use Rattle.sql_eval.specs.Reads.{alone}
use Rattle.sql_eval.specs.Inserts.{cell_values, row_draws}
use Rattle.sql_eval.proofs.Walking.{put_before}
use Rattle.sql_eval.proofs.insert.values_given.Given as goal

abbrev pub invariant-loop-column : goal.invariant-loop-column
invariant-loop-column l = record {
  at : l.at ≡ l.column-index;
  fits : (l.next +ℤ pos (row_draws (drop l.column-index l.cells))) ≤ℤ pos 9223372036854775807;
  so_far : put_before l.values (all_of (cell_values alone (drop l.column-index l.columns) l.next (drop l.column-index l.cells)))
      ≡ all_of (cell_values alone l.columns l.fn.next l.cells);
}

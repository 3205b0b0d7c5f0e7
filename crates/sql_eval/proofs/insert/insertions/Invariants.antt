use Rattle.std.proofs.Common.{◌≡◌, ◌<◌, [], drop, map}
use Rattle.std.specs.Prelude.{pos, ◌+ℤ◌, ◌≤ℤ◌}
use Rattle.sql_eval.specs.declared.effect.Change.{Change}
use Rattle.sql_eval.specs.Reads.{alone}
use Rattle.sql_eval.specs.Inserts.{all_draws, rows_given}
use Rattle.sql_eval.proofs.Walking.{put_before}
use Rattle.sql_eval.proofs.insert.insertions.Given as goal

abbrev pub invariant-loop-row : goal.invariant-loop-row
invariant-loop-row g l = record {
  few : all_draws (drop l.row-index l.rows) < 4294967296;
  fits : (l.next +ℤ pos (all_draws (drop l.row-index l.rows))) ≤ℤ pos 9223372036854775807;
  so_far : put_before l.made (rows_given alone (g.V.TableView.rows l.view) l.number l.table.columns l.table.key
      (map (λ (c : Change). c.key) l.made) l.next (drop l.row-index l.rows))
      ≡ rows_given alone (g.V.TableView.rows l.view) l.number l.table.columns l.table.key [] l.fn.next l.rows;
}

use Rattle.std.proofs.Common.{◌≡◌, drop, map, Bor}
use Rattle.sql_eval.specs.declared.row.Row.{Row}
use Rattle.sql_eval.specs.Walks.{all_of}
use Rattle.sql_eval.specs.Reads.{alone, result_row}
use Rattle.sql_eval.proofs.Walking.{put_before}
use Rattle.sql_eval.proofs.read.result_rows.Given as goal

abbrev pub invariant-loop-row : goal.invariant-loop-row
invariant-loop-row l = put_before l.made (all_of (map (λ (r : Bor Row). result_row alone l.list r.now) (drop l.row-index l.rows)))
    ≡ all_of (map (λ (r : Bor Row). result_row alone l.list r.now) l.rows)

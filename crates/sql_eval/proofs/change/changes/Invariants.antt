use Rattle.std.proofs.Common.{◌≡◌, drop, Bor}
use Rattle.sql_eval.specs.declared.row.Row.{Row}
use Rattle.sql_eval.specs.Views.{entry_of}
use Rattle.sql_eval.specs.Walks.{walked}
use Rattle.sql_eval.specs.Reads.{alone}
use Rattle.sql_eval.specs.Stored.{change_of}
use Rattle.sql_eval.proofs.Walking.{put_before}
use Rattle.sql_eval.proofs.change.changes.Given as goal

abbrev pub invariant-loop-row : goal.invariant-loop-row
invariant-loop-row l = put_before l.made (walked (λ (r : Bor Row). change_of alone l.columns l.change (entry_of l.key r.now)) (drop l.row-index l.rows))
    ≡ walked (λ (r : Bor Row). change_of alone l.columns l.change (entry_of l.key r.now)) l.rows

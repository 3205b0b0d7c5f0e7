use Rattle.std.proofs.Common.{◌≡◌, ℕ, drop, map, Bor}
use Rattle.sql_eval.specs.declared.row.Row.{Row}
use Rattle.sql_eval.specs.Views.{entry_of}
use Rattle.sql_eval.specs.Walks.{walked}
use Rattle.sql_eval.specs.Reads.{alone, kept}
use Rattle.sql_eval.proofs.Walking.{put_before}
use Rattle.sql_eval.proofs.rows.kept_rows.Given as goal

abbrev pub invariant-loop-row : goal.invariant-loop-row
invariant-loop-row l = (key : ℕ)
    → put_before (map (λ (r : Bor Row). entry_of key r.now) l.kept.items) (walked (λ (r : Bor Row). kept alone l.filter (entry_of key r.now)) (drop l.row-index l.rows))
    ≡ walked (λ (r : Bor Row). kept alone l.filter (entry_of key r.now)) l.rows

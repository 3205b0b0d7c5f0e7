use Rattle.std.proofs.Common.{◌≡◌, ◌++◌, drop, map}
use Rattle.std.specs.Prelude.{◌==◌, filter}
use Rattle.sql_eval.specs.declared.row.Row.{Row}
use Rattle.backend_trait.specs.Keys.{Place}
use Rattle.outcomes.specs.Sights.{all_stood}
use Rattle.outcomes.proofs.rows.rows_among.Given as goal

abbrev pub invariant-loop-one : goal.invariant-loop-one
invariant-loop-one l =
    l.rows ++ map (λ (e : Place × Row). e.1) (filter (λ (e : Place × Row). e.0.table == l.table) (all_stood (drop l.one-index l.seen)))
    ≡ map (λ (e : Place × Row). e.1) (filter (λ (e : Place × Row). e.0.table == l.table) (all_stood l.seen))

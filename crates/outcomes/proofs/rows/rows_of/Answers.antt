use Rattle.std.proofs.Common.{◌≡◌, ◌∙◌, List, map, ap}
use Rattle.std.specs.Prelude.{◌==◌, filter, Result, Ok, Err, IfOk}
use Rattle.pool_base.specs.declared.no_memory.NoMemory.{NoMemory}
use Rattle.sql_eval.specs.declared.row.Row.{Row}
use Rattle.backend_trait.specs.Keys.{Place}
use Rattle.outcomes.specs.Sights.{all_stood}
use Rattle.outcomes.specs.declared.sight.Seen.{Seen}
use Rattle.outcomes.proofs.Laid.{rows_listed}
use Rattle.outcomes.proofs.rows.rows_of.Goals as goal

same_rows : (r : Result (List Row) NoMemory) (a b : List Row) → IfOk r (λ rows. rows ≡ a) → a ≡ b → IfOk r (λ rows. rows ≡ b)
same_rows (Ok rows) a b is same = is ∙ same
same_rows (Err e) a b is same = tt

pub returns : goal.returns
returns c =
    let sight = c.in_ok-sight.sight in
    same_rows c.rows_among.result _ _ c.rows_among.ensures
    (ap (λ (xs : List Seen). map (λ (e : Place × Row). e.1) (filter (λ (e : Place × Row). e.0.table == c.args.table) (all_stood xs))) c.as_slice.ensures.value
    ∙ rows_listed sight.rows.items c.args.log.now c.args.table sight.sorted c.in_ok-sight.ensures)

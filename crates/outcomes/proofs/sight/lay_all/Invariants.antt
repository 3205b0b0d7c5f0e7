use Rattle.std.proofs.Common.{◌≡◌, drop, map, Bor}
use Rattle.std.specs.Prelude.{T}
use Rattle.std.specs.FinMap.{is_sorted}
use Rattle.sql_eval.specs.declared.effect.Change.{Change}
use Rattle.backend_trait.specs.Keys.{place_order}
use Rattle.outcomes.specs.Sights.{all_laid, all_stood, rows_at}
use Rattle.outcomes.proofs.sight.lay_all.Given as goal

abbrev pub invariant-loop-change : goal.invariant-loop-change
invariant-loop-change l = record {
  sorted : T (is_sorted place_order (all_stood l.rows.items));
  laid : all_laid (rows_at l.rows.items) (map (λ (c : Bor Change). c.now) (drop l.change-index l.changes))
      ≡ all_laid (rows_at l.fn.rows.items) (map (λ (c : Bor Change). c.now) l.changes);
}

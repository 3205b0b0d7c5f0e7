use Rattle.std.proofs.Common.{List, map, ap, sym, ◌∙◌, subst, Bor}
use Rattle.std.specs.Prelude.{T}
use Rattle.std.specs.FinMap.{is_sorted}
use Rattle.sql_eval.specs.declared.effect.Change.{Change}
use Rattle.backend_trait.specs.Keys.{place_order}
use Rattle.backend_trait.specs.Rows.{Rows, no_rows}
use Rattle.outcomes.specs.Sights.{all_laid, all_stood}
use Rattle.outcomes.specs.declared.sight.Seen.{Seen}
use Rattle.outcomes.proofs.Laid.{none_seen}
use Rattle.outcomes.proofs.sight.Sight.new.Goals as goal

pub lay_all-requires : goal.lay_all-requires
lay_all-requires c = subst (λ (xs : List Seen). T (is_sorted place_order (all_stood xs))) (sym c.new-rows.ensures.items) tt

pub returns : goal.returns
returns c =
    c.in_ok-lay_all.ensures.laid
    ∙ (ap (λ (rows : Rows). all_laid rows (map (λ (d : Bor Change). d.now) c.as_slice.result.now)) (none_seen c.new-rows.result.items c.new-rows.ensures.items)
    ∙ (ap (λ (changes : List (Bor Change)). all_laid no_rows (map (λ (d : Bor Change). d.now) changes)) c.as_slice.ensures.value ∙ c.in_ok-changes.ensures no_rows))

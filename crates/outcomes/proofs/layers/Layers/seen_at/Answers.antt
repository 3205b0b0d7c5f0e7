use Rattle.std.proofs.Common.{Bor, List, ap, sym, subst, ◌∙◌}
use Rattle.std.specs.Prelude.{Option}
use Rattle.std.specs.Option.{option_map}
use Rattle.sql_eval.specs.declared.row.Row.{Row}
use Rattle.backend_trait.specs.Keys.{place, place_order}
use Rattle.outcomes.specs.declared.chain.Chain.{Chain}
use Rattle.outcomes.specs.Chains.{all_chained, shown}
use Rattle.outcomes.specs.Spread.{StandsAt, StandsBetween}
use Rattle.outcomes.proofs.Layered.{chain_at, seen_below, seen_shown, seen_unshown}
use Rattle.outcomes.proofs.layers.Layers.seen_at.Goals as goal

pub returns-in-Some : goal.returns-in-Some
returns-in-Some c =
    let layers = c.args.self.now in
    let p = place c.args.table c.args.key.now in
    c.as_ref.ensures.value
    ∙ seen_shown layers.changes.now layers.index.now layers.mark layers.own.items layers.made layers.sorted p c.in-Ok.number c.index-own-number.result c.in-Some.row.now
    (chain_at layers.own.items c.as_slice-own.result.now c.in-Ok.number c.index-own-number.result c.as_slice-own.ensures.value c.in-Ok.ensures.at.0 c.index-own-number.is)
    (subst (λ (xs : List Chain). StandsAt place_order p (all_chained xs) c.in-Ok.number) c.as_slice-own.ensures.value c.in-Ok.ensures.at.1)
    (sym (ap (λ (o : Option (Bor (Option Row))). option_map (λ (r : Bor (Option Row)). r.now) o) (sym c.in-Some.is)
    ∙ (c.left_shown.ensures ∙ ap (shown 1) (c.as_slice.ensures.value ∙ ap (λ (chain : Chain). chain.versions.items) (sym c.index-own-number.is)))))

pub returns-in-None : goal.returns-in-None
returns-in-None c =
    let layers = c.args.self.now in
    let p = place c.args.table c.args.key.now in
    seen_unshown layers.changes.now layers.index.now layers.mark layers.own.items layers.made layers.sorted p c.in-Ok.number c.index-own-number.result
    (option_map (λ (r : Bor Row). r.now) c.below_at.result)
    (chain_at layers.own.items c.as_slice-own.result.now c.in-Ok.number c.index-own-number.result c.as_slice-own.ensures.value c.in-Ok.ensures.at.0 c.index-own-number.is)
    (subst (λ (xs : List Chain). StandsAt place_order p (all_chained xs) c.in-Ok.number) c.as_slice-own.ensures.value c.in-Ok.ensures.at.1)
    (sym (ap (λ (o : Option (Bor (Option Row))). option_map (λ (r : Bor (Option Row)). r.now) o) (sym c.in-None.is)
    ∙ (c.left_shown.ensures ∙ ap (shown 1) (c.as_slice.ensures.value ∙ ap (λ (chain : Chain). chain.versions.items) (sym c.index-own-number.is)))))
    c.below_at.ensures

pub returns-in-Err : goal.returns-in-Err
returns-in-Err c =
    let layers = c.args.self.now in
    let p = place c.args.table c.args.key.now in
    seen_below layers.changes.now layers.index.now layers.mark layers.own.items layers.made layers.sorted p c.in-Err.field-0 (option_map (λ (r : Bor Row). r.now) c.below_at-in-Err.result)
    (subst (λ (xs : List Chain). StandsBetween place_order p (all_chained xs) c.in-Err.field-0) c.as_slice-own.ensures.value c.in-Err.ensures.between.1) c.below_at-in-Err.ensures

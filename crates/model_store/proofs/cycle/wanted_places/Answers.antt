use Rattle.std.proofs.Common.{map, sym, ◌∙◌}
use Rattle.std.proofs.lemmas.List.{take_rest}
use Rattle.outcomes.specs.Spots.{place_of}
use Rattle.model_store.proofs.WalkLaws.{fresh_wants_places, stale_wants_none}
use Rattle.model_store.proofs.cycle.wanted_places.Goals as goal

pub returns-then-is_any_changed : goal.returns-then-is_any_changed
returns-then-is_any_changed c = λ held answer changes.
    let told = simp take_rest at c.is_any_changed.ensures in
    stale_wants_none c.args.log.now c.args.work.now held answer changes (map place_of c.args.places.now) (sym told ∙ c.if-is_any_changed.true)

pub returns : goal.returns
returns c = λ held answer changes.
    let told = simp take_rest at c.is_any_changed.ensures in
    fresh_wants_places c.args.log.now c.args.work.now held answer changes (map place_of c.args.places.now) (sym told ∙ c.if-is_any_changed.false)

use Rattle.std.proofs.Common.{◌≡◌, true, false, map, sym, ◌∙◌}
use Rattle.std.proofs.lemmas.List.{take_rest}
use Rattle.outcomes.specs.Spots.{place_of}
use Rattle.model_store.proofs.VerdictLaws.{free_goes, held_waits, stale_refused}
use Rattle.model_store.proofs.verdict.verdict_on_places.Goals as goal

pub returns-then-is_any_changed : goal.returns-then-is_any_changed
returns-then-is_any_changed c = λ numbers tables table answer changes.
    let told = simp take_rest at c.is_any_changed.ensures in
    stale_refused numbers tables c.args.log.now c.args.seats.now c.args.at c.args.work.now table answer changes (map place_of c.args.places.now) c.changed_meanwhile.result
    (sym told ∙ c.if-is_any_changed.true) c.changed_meanwhile.ensures

pub returns-then-is_taken : goal.returns-then-is_taken
returns-then-is_taken c = λ numbers tables table answer changes.
    let told = simp take_rest at c.is_any_changed.ensures in
    held_waits numbers tables c.args.log.now c.args.seats.now c.args.at c.args.work.now table answer changes (map place_of c.args.places.now) (sym told ∙ c.if-is_any_changed.false)
    (c.is_taken.ensures.0 c.if-is_taken.true)

pub returns : goal.returns
returns c = λ numbers tables table answer changes.
    let told = simp take_rest at c.is_any_changed.ensures in
    free_goes numbers tables c.args.log.now c.args.seats.now c.args.at c.args.work.now table answer changes (map place_of c.args.places.now) (sym told ∙ c.if-is_any_changed.false)
    (λ held. let f : true ≡ false = sym (c.is_taken.ensures.1 held) ∙ c.if-is_taken.false in cc)

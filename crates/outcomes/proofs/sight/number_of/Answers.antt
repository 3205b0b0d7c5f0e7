use Rattle.std.proofs.Common.{rules, of_calls}
use Rattle.std.proofs.lemmas.Fn.{always_returns_same}
use Rattle.backend_trait.specs.Keys.{place, place_order}
use Rattle.outcomes.specs.Sights.{stood}
use Rattle.outcomes.proofs.Standing.{number_at, number_between}
use Rattle.outcomes.proofs.sight.number_of.Goals as goal

pub returns-clause-at : goal.returns-clause-at
returns-clause-at c =
    let p = place c.args.table c.args.key.now in
    number_at stood p c.args.rows.now c.binary_search_by.result c.binary_search_by.ensures.bound
    (c.binary_search_by.ensures.position (λ y. place_order (stood y).0 p) (always_returns_same _ _ _ (λ a r f k. search (rules, of_calls))))

pub returns-clause-between : goal.returns-clause-between
returns-clause-between c =
    let p = place c.args.table c.args.key.now in
    number_between stood p c.args.rows.now c.binary_search_by.result c.binary_search_by.ensures.bound
    (c.binary_search_by.ensures.position (λ y. place_order (stood y).0 p) (always_returns_same _ _ _ (λ a r f k. search (rules, of_calls)))) c.requires

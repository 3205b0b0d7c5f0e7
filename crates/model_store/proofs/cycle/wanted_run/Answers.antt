use Rattle.std.proofs.Common.{map, ap}
use Rattle.backend_trait.specs.Effect.{changes_of}
use Rattle.outcomes.specs.Given.{given_in}
use Rattle.outcomes.specs.Spots.{place_of}
use Rattle.model_store.proofs.WalkLaws.{fails_want_none, given_wants}
use Rattle.model_store.proofs.cycle.wanted_run.Goals as goal

pub returns-in-Fails : goal.returns-in-Fails
returns-in-Fails c = λ held. fails_want_none c.args.log.now c.args.work.now held c.args.outcome.now c.in-Fails.field-0 c.in-Fails.is

pub returns-in-Gives : goal.returns-in-Gives
returns-in-Gives c = λ held.
    given_wants c.args.log.now c.args.work.now held (given_in c.args.outcome.now) c.in-Gives.answer (changes_of c.in-Gives.changes.items) _ (map place_of c.as_slice.result.now) _ (ap given_in c.in-Gives.is)
    (ap (map place_of) c.as_slice.ensures.value) (c.wanted_places.ensures held c.in-Gives.answer (changes_of c.in-Gives.changes.items))

use Rattle.std.proofs.Common.{map, ap}
use Rattle.std.specs.Prelude.{false}
use Rattle.backend_trait.specs.Effect.{changes_of, table_in}
use Rattle.outcomes.specs.Given.{given_in}
use Rattle.outcomes.specs.Spots.{place_of}
use Rattle.model_store.specs.Phases.{live_of}
use Rattle.model_store.specs.Seats.{store_of}
use Rattle.model_store.proofs.VerdictLaws.{fails_refused, given_fits}
use Rattle.model_store.proofs.verdict.verdict_on_run.Goals as goal

pub returns-in-Fails : goal.returns-in-Fails
returns-in-Fails c = λ numbers tables given.
    fails_refused numbers tables c.args.log.now c.args.seats.now c.args.at c.args.work.now (table_in c.args.run.now.statement) c.args.run.now c.in-Fails.code c.in-Fails.is given

pub returns-in-Gives : goal.returns-in-Gives
returns-in-Gives c = λ numbers tables given.
    given_fits (store_of numbers tables c.args.log.now c.args.seats.now false) c.args.at (live_of c.args.log.now c.args.work.now) (table_in c.args.run.now.statement) (given_in c.args.run.now.outcome) c.in-Gives.answer (changes_of c.in-Gives.changes.items) _
    (map place_of c.as_slice.result.now) c.verdict_on_places.result (ap given_in c.in-Gives.is) (ap (map place_of) c.as_slice.ensures.value) (c.verdict_on_places.ensures numbers tables (table_in c.args.run.now.statement) c.in-Gives.answer (changes_of c.in-Gives.changes.items))

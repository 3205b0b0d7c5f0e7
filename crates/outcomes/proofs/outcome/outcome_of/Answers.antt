use Rattle.backend_trait.specs.Effect.{changes_of, table_in}
use Rattle.backend_trait.specs.Rows.{laid_over}
use Rattle.outcomes.specs.Log.{rows_of}
use Rattle.outcomes.specs.Seeing.{rows_seen}
use Rattle.outcomes.proofs.StoredRows.{keyed_seen}
use Rattle.outcomes.proofs.outcome.outcome_of.Goals as goal

pub outcome_on-requires-clause-keyed : goal.outcome_on-requires-clause-keyed
outcome_on-requires-clause-keyed c =
    keyed_seen c.args.catalogue.now (rows_seen c.in_ok-sight.sight) (laid_over (changes_of c.args.own.now) (rows_of c.args.sets.now)) (table_in c.args.statement.now)
    c.in_ok-sight.ensures c.requires.stored

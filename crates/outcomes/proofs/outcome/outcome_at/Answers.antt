use Rattle.backend_trait.specs.Effect.{changes_of, table_in}
use Rattle.backend_trait.specs.Rows.{laid_over}
use Rattle.outcomes.specs.Indexed.{rows_in_index}
use Rattle.outcomes.specs.Layered.{seen_rows}
use Rattle.outcomes.proofs.StoredRows.{keyed_seen}
use Rattle.outcomes.proofs.outcome.outcome_at.Goals as goal

pub outcome_on-requires-clause-keyed : goal.outcome_on-requires-clause-keyed
outcome_on-requires-clause-keyed c =
    let layers = c.in_ok-layers.layers in
    keyed_seen c.args.catalogue.now (seen_rows layers.changes.now layers.index.now layers.mark) (laid_over (changes_of c.args.own.now) (rows_in_index c.args.index.now c.args.mark)) (table_in c.args.statement.now)
    c.in_ok-layers.ensures c.requires.stored

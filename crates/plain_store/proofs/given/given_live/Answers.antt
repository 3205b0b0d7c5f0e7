use Rattle.std.proofs.Common.{ap, ◌∙◌}
use Rattle.backend_trait.specs.Store.{next_for}
use Rattle.outcomes.specs.Next.{next_of}
use Rattle.plain_store.proofs.SessionLaws.{given_live_as, seen_stored}
use Rattle.plain_store.proofs.given.given_live.Goals as goal

pub outcome_of-requires-clause-stored : goal.outcome_of-requires-clause-stored
outcome_of-requires-clause-stored c =
    seen_stored c.args.store.now.catalogue c.args.work.now c.as_slice-sets.result.now c.as_slice-own.result.now c.as_slice-sets.ensures.value c.as_slice-own.ensures.value c.requires.stored

pub returns : goal.returns
returns c =
    given_live_as c.args.store.now c.args.statement.now c.args.work.now c.as_slice-sets.result.now c.as_slice-own.result.now c.next_for-next.result c.outcome_of.result c.as_slice-sets.ensures.value
    c.as_slice-own.ensures.value (c.next_for-next.ensures.next ∙ ap (next_for (next_of c.args.store.now.numbers)) c.table_in.ensures) c.outcome_of.ensures

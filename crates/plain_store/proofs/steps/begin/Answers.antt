use Rattle.std.proofs.Common.{◌≡◌, List, ap, ◌∙◌}
use Rattle.backend_trait.specs.Store.{begun}
use Rattle.outcomes.specs.declared.change.ChangeSet.{ChangeSet}
use Rattle.outcomes.specs.Log.{rows_of}
use Rattle.plain_store.specs.Phases.{live_of}
use Rattle.plain_store.specs.Meaning.{store_of}
use Rattle.plain_store.proofs.AnsweredLaws.{begun_settles, begun_is}
use Rattle.plain_store.proofs.steps.begin.Goals as goal

pub settle-requires-clause-stored : goal.settle-requires-clause-stored
settle-requires-clause-stored c =
    begun_settles c.args.store.now c.args.s c.in_ok-work.work (c.in_ok-work.ensures ∙ ap (λ (log : List ChangeSet). begun (rows_of log)) c.as_slice.ensures.value)

pub returns : goal.returns
returns c =
    begun_is c.args.store.now c.args.s (store_of c.settle.new.store) c.in_ok-work.work (c.in_ok-work.ensures ∙ ap (λ (log : List ChangeSet). begun (rows_of log)) c.as_slice.ensures.value) c.settle.ensures

use Rattle.std.proofs.Common.{◌≡◌, List, subst}
use Rattle.std.specs.Prelude.{IfOk}
use Rattle.backend_trait.specs.Rows.{rows_in}
use Rattle.outcomes.specs.declared.change.ChangeSet.{ChangeSet}
use Rattle.outcomes.specs.Log.{rows_of}
use Rattle.model_store.proofs.backend.MemoryStoreBackend.rows_of.Goals as goal

pub returns : goal.returns
returns c = subst (λ (log : List ChangeSet). IfOk c.rows_of.result (λ rows. rows ≡ rows_in (rows_of log) c.args.table)) c.as_slice.ensures.value c.rows_of.ensures

-- The store that the program's data mean.
use Rattle.std.specs.Prelude.{ℕ, ℤ, Bool, List, Option, slice_get}
use Rattle.schema.specs.declared.catalogue.TableDef.{TableDef}
use Rattle.backend_trait.specs.declared.request.Request.{Request}
use Rattle.backend_trait.specs.Store.{Store}
use Rattle.outcomes.specs.declared.change.ChangeSet.{ChangeSet}
use Rattle.outcomes.specs.Log.{rows_of}
use Rattle.outcomes.specs.Next.{next_of}
use Rattle.plain_store.specs.declared.data.Phase.{Phase}
use Rattle.plain_store.specs.declared.data.Database.{Database}
pub use Rattle.plain_store.specs.Phases.{live_of, transaction_of, transaction_in, mark_in, request_at, pending_of}

abbrev pub store_in : (ℕ → Option ℤ) → List TableDef → List ChangeSet → List Phase → List (Option Request) → List Bool → Bool → Store
store_in next tables log phases requests crossed lost = record {
  tables = tables;
  rows = rows_of log;
  next = next;
  transaction = λ s. transaction_in (slice_get phases s);
  pending = λ s. pending_of (request_at (slice_get requests s)) (mark_in (slice_get crossed s));
  lost = lost;
}

abbrev pub store_of : Database → Store
store_of d = store_in (next_of d.numbers) d.catalogue d.log.items d.phases.items d.requests.items d.crossed.items d.is_lost

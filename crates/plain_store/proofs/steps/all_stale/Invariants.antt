use Rattle.std.proofs.Common.{◌≡◌, take, map}
use Rattle.backend_trait.specs.Effect.{changes_of}
use Rattle.backend_trait.specs.Store.{made_stale, where_live}
use Rattle.plain_store.specs.declared.data.Phase.{Phase}
use Rattle.plain_store.specs.Phases.{transaction_of}
use Rattle.plain_store.proofs.steps.all_stale.Given as goal

abbrev pub invariant-loop-phase : goal.invariant-loop-phase
invariant-loop-phase l =
    map transaction_of l.all.items ≡ map (λ (phase : Phase). where_live (made_stale (changes_of l.set.changes.items)) (transaction_of phase)) (take l.phase-index l.phases)

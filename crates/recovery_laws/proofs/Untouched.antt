-- What the masks say of lists of steps holds of all, since every list is fit.
use Rattle.std.proofs.Common.{◌≡◌, ◌<◌, List, [], ◌∷◌, ◌++◌, false}
use Rattle.std.specs.FinMap as fin
use Rattle.pool_base.specs.declared.backend_set.BackendSet.{BackendSet}
use Rattle.schema.specs.Allowed.{AreAllowed}
use Rattle.backend_trait.specs.Keys.{Place}
use Rattle.session_machine.specs.declared.machine.ReadPolicy.{ReadPolicy}
use Rattle.online_recovery.specs.declared.layout.Layout.{Layout}
use Rattle.online_recovery.specs.State.{is_touched}
use Rattle.one_copy_model.specs.Tracking.{single}
use Rattle.recovery_laws.specs.declared.step.Step.{Step}
use Rattle.recovery_laws.specs.Pool.{Pool, first_pool, after, IsPlayed, pool_all}
use Rattle.recovery_laws.specs.Masks.{IsQuietAlong, Masked}
use Rattle.recovery_laws.specs.Steps.{AreFit}
use Rattle.recovery_laws.proofs.AlwaysFit.{always_fit}
use Rattle.recovery_laws.proofs.Masks.{joined_played, masked_at_last, rows_at_last}

fit_behind : (p : Pool) (es more : List Step) → AreFit p (es ++ more) → AreFit (pool_all p es) more
fit_behind p [] more fit = fit
fit_behind p (e ∷ es) more fit = fit_behind (after p e) es more fit.1

module _ (layout : Layout) (policy : ReadPolicy) (attached : BackendSet) where
  pub always_masked : (es : List Step) → AreAllowed layout.tables → attached.bits < 256 → IsPlayed (first_pool layout policy attached) es
      → Masked (pool_all (first_pool layout policy attached) es).tracked
  always_masked es allowed few played = masked_at_last layout policy attached es allowed few played (always_fit layout policy attached es allowed few played)

  pub rows_stay : (before more : List Step) (q : Place) → AreAllowed layout.tables → attached.bits < 256 → IsPlayed (first_pool layout policy attached) before
      → IsPlayed (pool_all (first_pool layout policy attached) before) more → IsQuietAlong (pool_all (first_pool layout policy attached) before) more
      → is_touched (pool_all (pool_all (first_pool layout policy attached) before) more).gate.touched q.table ≡ false
      → fin.get (single (pool_all (pool_all (first_pool layout policy attached) before) more).tracked).rows q ≡ fin.get (single (pool_all (first_pool layout policy attached) before).tracked).rows q
  rows_stay before more q allowed few played later =
      rows_at_last layout policy attached before allowed few played (always_fit layout policy attached before allowed few played) more q later
      (fit_behind (first_pool layout policy attached) before more
      (always_fit layout policy attached (before ++ more) allowed few (joined_played (first_pool layout policy attached) before more played later)))

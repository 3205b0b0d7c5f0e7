-- So what holds of fit lists of steps holds of all.
use Rattle.std.proofs.Common.{◌≡◌, ◌<◌, ℕ, List, true}
use Rattle.std.specs.Prelude.{Some}
use Rattle.pool_base.specs.Sets.{has}
use Rattle.pool_base.specs.declared.session_id.SessionId.{SessionId}
use Rattle.pool_base.specs.declared.backend_set.BackendSet.{BackendSet}
use Rattle.schema.specs.Allowed.{AreAllowed}
use Rattle.backend_trait.specs.declared.request.Request.TheVariants as requests
use Rattle.session_machine.specs.declared.machine.ReadPolicy.{ReadPolicy}
use Rattle.online_recovery.specs.declared.layout.Layout.{Layout}
use Rattle.one_copy_model.specs.Tracking.{single}
use Rattle.one_copy_model.specs.Statement.{ReplicasAgree}
use Rattle.recovery_laws.specs.declared.step.Step.{Step}
use Rattle.recovery_laws.specs.Pool.{first_pool, world_of, after, IsPlayed, pool_all}
use Rattle.recovery_laws.specs.Steps.{AllHold}
use Rattle.recovery_laws.proofs.Always.{always_hold, agree_at_last, rows_at_last, number_at_last, adds_at_last}
use Rattle.recovery_laws.proofs.AlwaysFit.{always_fit}

module _ (layout : Layout) (policy : ReadPolicy) (attached : BackendSet) (es : List Step) where
  pub always_right : AreAllowed layout.tables → attached.bits < 256 → IsPlayed (first_pool layout policy attached) es → AllHold (first_pool layout policy attached) es
  always_right allowed few played = always_hold layout policy attached es allowed few played (always_fit layout policy attached es allowed few played)

  pub always_agree : AreAllowed layout.tables → attached.bits < 256 → IsPlayed (first_pool layout policy attached) es → ReplicasAgree (pool_all (first_pool layout policy attached) es).tracked
  always_agree allowed few played = agree_at_last layout policy attached es allowed few played (always_fit layout policy attached es allowed few played)

  pub rows_right : (s : SessionId) (b : ℕ) → AreAllowed layout.tables → attached.bits < 256 → IsPlayed (first_pool layout policy attached) es
      → (pool_all (first_pool layout policy attached) es).asked s.number b ≡ Some requests.TakeSnapshot → has (pool_all (first_pool layout policy attached) es).gate.attached.bits b ≡ true
      → ((world_of (pool_all (first_pool layout policy attached) es)).store b).rows ≡ (single (pool_all (first_pool layout policy attached) es).tracked).rows
  rows_right s b allowed few played = rows_at_last layout policy attached es s b allowed few played (always_fit layout policy attached es allowed few played)

  pub numbers_right : (s : SessionId) (b table : ℕ) → AreAllowed layout.tables → attached.bits < 256 → IsPlayed (first_pool layout policy attached) es
      → (pool_all (first_pool layout policy attached) es).asked s.number b ≡ Some (requests.ReadSerial table) → has (pool_all (first_pool layout policy attached) es).gate.attached.bits b ≡ true
      → ((world_of (pool_all (first_pool layout policy attached) es)).store b).next table ≡ (single (pool_all (first_pool layout policy attached) es).tracked).next table
  numbers_right s b table allowed few played = number_at_last layout policy attached es s b table allowed few played (always_fit layout policy attached es allowed few played)

  pub nothing_added : (e : Step) → AreAllowed layout.tables → attached.bits < 256 → IsPlayed (first_pool layout policy attached) es → (pool_all (first_pool layout policy attached) es).gate.quiet ≡ 3
      → (after (pool_all (first_pool layout policy attached) es) e).tracked.history ≡ (pool_all (first_pool layout policy attached) es).tracked.history
  nothing_added e allowed few played = adds_at_last layout policy attached es e allowed few played (always_fit layout policy attached es allowed few played)

-- Which backends are those of sessions and of their recoveries: who is due to post a request there, or waits for an answer.
use Rattle.std.specs.Prelude.{◌≡◌, ℕ, true, List, slice_index_or}
use Rattle.pool_base.specs.Sets.{has}
use Rattle.pool_base.specs.declared.backend_id.BackendId.{BackendId}
use Rattle.pool_base.specs.declared.session_id.SessionId.{SessionId}
use Rattle.session_machine.specs.declared.machine.ReadPolicy.{ReadPolicy}
use Rattle.session_machine.specs.Rules.{next_action}
use Rattle.online_recovery.specs.declared.layout.Layout.{Layout}
use Rattle.online_recovery.specs.Rules.{next_action as recovery_action}
use Rattle.recovery_seat.specs.Steps.{IsAt, RecoversAt}
use Rattle.session_player.specs.declared.slots.Slot.{Slot}
use Rattle.session_player.specs.declared.slots.Slot.TheVariants.{Free}
use Rattle.session_player.specs.Journals.{machine_in_slot, standing_in_slot}

-- the backend of a slot's session, and that of its recovery, is in a set
pub record IsAmong (bits : ℕ) (slot : Slot) : Type 0 where
  pub session : (policy : ReadPolicy) (s : SessionId) (b : BackendId) → IsAt b (next_action (machine_in_slot policy s slot)) → has bits b.number ≡ true
  pub recovery : (layout : Layout) (s : SessionId) (b : BackendId) → RecoversAt b (recovery_action (standing_in_slot layout s slot)) → has bits b.number ≡ true

-- so it is of each slot but that at a place
abbrev pub OthersAreAmong : ℕ → ℕ → List Slot → Type 0
OthersAreAmong bits at slots = (i : ℕ) → ¬ (i ≡ at) → IsAmong bits (slice_index_or slots i Free)

-- What a step of a session did, whose client may have ordered a recovery.
use Rattle.std.specs.Prelude.{◌≡◌, ◌==◌, ℕ, true, false, List}
use Rattle.pool_base.specs.Sets.{has}
use Rattle.pool_base.specs.declared.backend_id.BackendId.{BackendId}
use Rattle.pool_base.specs.declared.session_id.SessionId.{SessionId}
use Rattle.schema.specs.declared.catalogue.TableDef.{TableDef}
use Rattle.session_machine.specs.declared.action.Action.{Action}
use Rattle.session_machine.specs.declared.action.Action.TheVariants as actions
use Rattle.session_machine.specs.declared.machine.Machine.{Machine}
use Rattle.session_machine.specs.declared.machine.ReadPolicy.{ReadPolicy}
use Rattle.session_machine.specs.Rules.{new_machine, next_action}
use Rattle.online_recovery.specs.declared.action.RecoveryAction.{RecoveryAction}
use Rattle.online_recovery.specs.declared.action.RecoveryAction.TheVariants as recovery_actions
use Rattle.online_recovery.specs.declared.layout.Layout.{Layout}
use Rattle.online_recovery.specs.declared.standing.Standing.{Standing}
use Rattle.online_recovery.specs.State.{new_standing}
use Rattle.online_recovery.specs.Rules.{next_action as recovery_action}
use Rattle.session_seat.specs.declared.book.Journal.{Journal}
use Rattle.session_seat.specs.declared.step.Step.{Step}
use Rattle.session_seat.specs.declared.step.Step.TheVariants as step
use Rattle.session_seat.specs.Told.{added}
use Rattle.session_seat.specs.Shared.{Shared}
use Rattle.session_seat.specs.Schedule.{with_machine}
use Rattle.recovery_seat.specs.Schedule.{Entry, State, Comes, told, with_standing}

-- where what is shared, the machine of a session and its recovery stand, and what the journal has
pub record Stand : Type 0 where
  pub shared : Shared
  pub machine : Machine
  pub standing : Standing
  pub journal : Journal

abbrev pub at : Shared → Machine → Standing → Journal → Stand
at shared machine standing journal = record { shared = shared; machine = machine; standing = standing; journal = journal }

-- what is shared, and where all sessions stand
abbrev pub state : Shared → (SessionId → Machine) → (SessionId → Standing) → State
state shared machines recoveries = record { shared = shared; machines = machines; recoveries = recoveries }

-- what is due of a session, or of a recovery, is a request to that backend, or its answer
abbrev pub IsAt : BackendId → Action → Type 0
IsAt b (actions.Post at request) = at ≡ b
IsAt b (actions.WaitFor at) = at ≡ b
IsAt b action = ⊥

abbrev pub RecoversAt : BackendId → RecoveryAction → Type 0
RecoversAt b (recovery_actions.Post at request) = at ≡ b
RecoversAt b (recovery_actions.WaitFor at) = at ≡ b
RecoversAt b action = ⊥

-- each backend to which a session other than s, or its recovery, is due to post a request or whose answer it waits for is in a set
pub record Fits (others : ℕ) (s : SessionId) (machines : SessionId → Machine) (recoveries : SessionId → Standing) : Type 0 where
  pub sessions : (o : SessionId) (b : BackendId) → (o.number == s.number) ≡ false → IsAt b (next_action (machines o)) → has others b.number ≡ true
  pub recovers : (o : SessionId) (b : BackendId) → (o.number == s.number) ≡ false → RecoversAt b (recovery_action (recoveries o)) → has others b.number ≡ true

-- one event of session s or of its recovery took place, where it may, wherever the other sessions stand that fit the set, and the journal
-- tells of it
pub record TookPlace (tables : List TableDef) (s : SessionId) (others : ℕ) (old new : Stand) : Type 0 where
  pub entry : Entry
  pub comes : (machines : SessionId → Machine) (recoveries : SessionId → Standing) → machines s ≡ old.machine → recoveries s ≡ old.standing → Fits others s machines recoveries
      → Comes tables (state old.shared machines recoveries) entry (state new.shared (with_machine machines s new.machine) (with_standing recoveries s new.standing))
  pub tells : new.journal ≡ added old.journal (told tables entry)

-- nothing took place
pub record Stays (old new : Stand) : Type 0 where
  pub shared : new.shared ≡ old.shared
  pub machine : new.machine ≡ old.machine
  pub standing : new.standing ≡ old.standing
  pub journal : new.journal ≡ old.journal

-- what a step of a recovery that is under way did: one event took place, or none
abbrev pub GoesOn : List TableDef → SessionId → ℕ → Stand → Step → Stand → Type 0
GoesOn tables s others old (step.Did mark) new = TookPlace tables s others old new
GoesOn tables s others old step.Waits new = Stays old new
GoesOn tables s others old step.Idle new = ⊥
GoesOn tables s others old step.Closed new = ⊥
GoesOn tables s others old (step.Recovers moment number) new = ⊥

-- what a step of session s did: one event took place, or none; a session that is closed has the machine of its start, and no
-- recovery
abbrev pub IsStep : List TableDef → ReadPolicy → Layout → SessionId → ℕ → Stand → Step → Stand → Type 0
IsStep tables policy layout s others old (step.Did mark) new = TookPlace tables s others old new
IsStep tables policy layout s others old step.Waits new = Stays old new
IsStep tables policy layout s others old step.Idle new = Stays old new
IsStep tables policy layout s others old step.Closed new = Stays old new × (new.machine ≡ new_machine s policy) × (new.standing ≡ new_standing s layout)
IsStep tables policy layout s others old (step.Recovers moment number) new = ⊥

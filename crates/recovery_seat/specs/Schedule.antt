-- What takes place in a play with recoveries: the gate, the stores, the machines of the sessions and their recoveries go from one event to the
-- next, each where it may come.
use Rattle.std.specs.Prelude.{◌≡◌, ℕ, false, ◌==◌, List, [], ◌∷◌, ◌++◌, if◌then◌else◌}
use Rattle.pool_base.specs.Sets.{has}
use Rattle.pool_base.specs.declared.session_id.SessionId.{SessionId}
use Rattle.pool_base.specs.declared.backend_id.BackendId.{BackendId}
use Rattle.schema.specs.declared.catalogue.TableDef.{TableDef}
use Rattle.backend_trait.specs.Rows.{with_at}
use Rattle.backend_trait.specs.Store.{Store, prepared}
use Rattle.backend_trait.specs.declared.request.Request.{Request}
use Rattle.session_orders.specs.declared.order.OrderBody.{OrderBody}
use Rattle.session_orders.specs.declared.order.OrderBody.TheVariants as orders
use Rattle.session_machine.specs.declared.status.Status.TheVariants.{Idle}
use Rattle.session_machine.specs.declared.action.Action.TheVariants as actions
use Rattle.session_machine.specs.declared.action.SessionEvent.{SessionEvent}
use Rattle.session_machine.specs.declared.action.SessionEvent.TheVariants as events
use Rattle.session_machine.specs.declared.machine.GatePhase.TheVariants.{Out}
use Rattle.session_machine.specs.declared.machine.Machine.{Machine}
use Rattle.session_machine.specs.declared.machine.Point.TheVariants as points
use Rattle.session_machine.specs.declared.machine.ReadPolicy.{ReadPolicy}
use Rattle.session_machine.specs.Rules.{new_machine, next_action}
use Rattle.online_recovery.specs.declared.action.RecoveryAction.TheVariants as recovery_actions
use Rattle.online_recovery.specs.declared.layout.Layout.{Layout}
use Rattle.online_recovery.specs.declared.standing.Due.TheVariants.{Resting}
use Rattle.online_recovery.specs.declared.standing.Standing.{Standing}
use Rattle.online_recovery.specs.State.{new_standing}
use Rattle.online_recovery.specs.Rules.{next_action as recovery_action, after}
use Rattle.online_recovery.specs.Allowed.{MayHappen as RecoveryMay}
use Rattle.session_seat.specs.Told.{told_of, told_lost}
use Rattle.session_seat.specs.Shared.{Shared, Serves, IsLoss}
use Rattle.session_seat.specs.Schedule.{Moves, IsAnswered, with_machine}

-- an event of a session, an event of the recovery that a session has ordered, or the loss of a backend
pub data Entry : Type 0 where
  Of : SessionId → SessionEvent → Entry
  Recovers : SessionId → SessionEvent → Entry
  Loses : BackendId → Entry

-- what a journal tells of it: of a recovery what it tells of a session
abbrev pub told : List TableDef → Entry → List ℕ
told tables (Of s event) = told_of tables s event
told tables (Recovers s event) = told_of tables s event
told tables (Loses b) = told_lost b

abbrev pub lines : List TableDef → List Entry → List ℕ
lines tables [] = []
lines tables (entry ∷ entries) = told tables entry ++ lines tables entries

-- what is shared, the machines of all sessions, and where the recovery of each stands
pub record State : Type 0 where
  pub shared : Shared
  pub machines : SessionId → Machine
  pub recoveries : SessionId → Standing

-- before a play no client is connected, and no recovery is under way
abbrev pub first_state : ReadPolicy → Layout → Shared → State
first_state policy layout shared =
    record { shared = shared; machines = λ s. new_machine s policy; recoveries = λ s. new_standing s layout }

-- the recovery of session s stands there, and every other where it stood
abbrev pub with_standing : (SessionId → Standing) → SessionId → Standing → SessionId → Standing
with_standing recoveries s standing t = if t.number == s.number then standing else recoveries t

-- Which event of a recovery may come.

-- the session has no block and no transaction
pub record IsOutside (m : Machine) : Type 0 where
  pub rests : m.point ≡ points.Resting
  pub idle : m.session.status ≡ Idle
  pub out : m.session.gate ≡ Out

-- PGPOOL RECOVER is the one order that a recovery takes in a play: no client leaves while its recovery is under way
abbrev pub LetsOrder : Machine → OrderBody → Type 0
LetsOrder m (orders.Recover number) = IsOutside m
LetsOrder m body = ⊥

-- a blank store comes in the place of one that is not attached, where nobody waits for an answer, and where nobody is due to post a
-- request: neither a session nor a recovery
pub record MaySwap (old : State) (b : BackendId) : Type 0 where
  pub detached : has old.shared.gate.attached.bits b.number ≡ false
  pub unasked : (o : SessionId) → ¬ (next_action (old.machines o) ≡ actions.WaitFor b)
  pub unposted : (o : SessionId) (request : Request) → ¬ (next_action (old.machines o) ≡ actions.Post b request)
  pub unawaited : (o : SessionId) → ¬ (recovery_action (old.recoveries o) ≡ recovery_actions.WaitFor b)
  pub unrecovered : (o : SessionId) (request : Request) → ¬ (recovery_action (old.recoveries o) ≡ recovery_actions.Post b request)

abbrev pub LetsRecovery : State → SessionId → SessionEvent → Type 0
LetsRecovery old s (events.Ordered order) = LetsOrder (old.machines s) order.body
LetsRecovery old s (events.Swapped b) = MaySwap old b
LetsRecovery old s events.Ended = ⊥
LetsRecovery old s event = Unit {0}

-- what an event of a recovery asks of the stores and makes of them: a Swap puts a blank store with the tables; all else is as of a session
abbrev pub ServesRecovery : List TableDef → (ℕ → Store) → ℕ → SessionEvent → (ℕ → Store) → Type 0
ServesRecovery tables old s (events.Swapped b) new = new ≡ with_at old b.number (prepared tables)
ServesRecovery tables old s event new = Serves tables old s event new

-- the event of the recovery of session s may come where that stands, the gate answers it, the stores serve it, and the recovery goes on
pub record Proceeds (tables : List TableDef) (s : SessionId) (old : State) (event : SessionEvent) (new : State) : Type 0 where
  pub may : RecoveryMay (old.recoveries s) event
  pub lets : LetsRecovery old s event
  pub answered : IsAnswered old.shared.gate event new.shared.gate
  pub serves : ServesRecovery tables old.shared.stores s.number event new.shared.stores
  pub machines : new.machines ≡ old.machines
  pub recoveries : new.recoveries ≡ with_standing old.recoveries s (after (old.recoveries s) event)

-- an event of session s moves what is shared and the machine of s, and no other, and comes where its recovery rests
pub record Moved (tables : List TableDef) (s : SessionId) (old : State) (event : SessionEvent) (new : State) : Type 0 where
  pub rests : (old.recoveries s).due ≡ Resting
  pub moves : Moves tables s old.shared (old.machines s) event new.shared (new.machines s)
  pub machines : new.machines ≡ with_machine old.machines s (new.machines s)
  pub recoveries : new.recoveries ≡ old.recoveries

-- the loss of a backend moves its store alone
pub record Lost (old : State) (b : BackendId) (new : State) : Type 0 where
  pub loss : IsLoss old.shared b new.shared
  pub machines : new.machines ≡ old.machines
  pub recoveries : new.recoveries ≡ old.recoveries

abbrev pub Comes : List TableDef → State → Entry → State → Type 0
Comes tables old (Of s event) new = Moved tables s old event new
Comes tables old (Recovers s event) new = Proceeds tables s old event new
Comes tables old (Loses b) new = Lost old b new

-- all of it comes one after another, each where it may
abbrev pub IsSchedule : List TableDef → State → List Entry → State → Type 0
IsSchedule tables old [] new = new ≡ old
IsSchedule tables old (entry ∷ entries) new = (mid : State) × Comes tables old entry mid × IsSchedule tables mid entries new

-- nothing of a recovery takes place
abbrev pub IsOfSessions : Entry → Type 0
IsOfSessions (Of s event) = Unit {0}
IsOfSessions (Recovers s event) = ⊥
IsOfSessions (Loses b) = Unit {0}

abbrev pub AreOfSessions : List Entry → Type 0
AreOfSessions [] = Unit {0}
AreOfSessions (entry ∷ entries) = IsOfSessions entry × AreOfSessions entries

-- The replicated world with recoveries: a layer over the world of the sessions, which knows of none.
use Rattle.std.specs.Prelude.{◌≡◌, ℕ, Bool, false, true, is_some, List, [], ◌∷◌, Option, Some, None}
use Rattle.pool_base.specs.declared.backend_id.BackendId.{BackendId}
use Rattle.pool_base.specs.declared.backend_set.BackendSet.{BackendSet}
use Rattle.pool_base.specs.declared.gate_call.GateCall.{GateCall}
use Rattle.pool_base.specs.declared.gate_call.GateCall.TheVariants as calls
use Rattle.backend_trait.specs.declared.request.Request.{Request}
use Rattle.backend_trait.specs.declared.answer.Answer.{Answer}
use Rattle.backend_trait.specs.Rows.{with_at}
use Rattle.backend_trait.specs.Store.{Transaction, Absent, Alive, Dead, Store, prepared, acted}
use Rattle.backend_trait.specs.Acts.{MayAnswer}
use Rattle.backend_trait.specs.Acting.{MayAct}
use Rattle.session_orders.specs.declared.order.OrderBody.{OrderBody}
use Rattle.session_orders.specs.declared.order.OrderBody.TheVariants as orders
use Rattle.session_machine.specs.declared.status.Status.TheVariants.{Idle}
use Rattle.session_machine.specs.declared.action.SessionEvent.{SessionEvent}
use Rattle.session_machine.specs.declared.action.SessionEvent.TheVariants as events
use Rattle.session_machine.specs.declared.machine.ReadPolicy.{ReadPolicy}
use Rattle.session_machine.specs.declared.machine.GatePhase.TheVariants.{Out}
use Rattle.session_machine.specs.declared.machine.Point.TheVariants as points
use Rattle.session_machine.specs.declared.machine.Machine.{Machine}
use Rattle.session_machine.specs.Rules.{new_machine}
use Rattle.snapshot_gate.specs.declared.state.GateState.{GateState}
use Rattle.snapshot_gate.specs.Function.{first as first_gate, step}
use Rattle.online_recovery.specs.declared.action.RecoveryAction.TheVariants as actions
use Rattle.online_recovery.specs.declared.layout.Layout.{Layout}
use Rattle.online_recovery.specs.declared.standing.Due.TheVariants.{Resting}
use Rattle.online_recovery.specs.declared.standing.Standing.{Standing}
use Rattle.online_recovery.specs.State.{new_standing}
use Rattle.online_recovery.specs.Rules.{next_action, after as recovery_after}
use Rattle.online_recovery.specs.Allowed.{MayHappen as RecoveryMay}
use Rattle.one_copy_model.specs.declared.event.Event.{Event}
use Rattle.one_copy_model.specs.declared.event.Event.TheVariants.{Of, Act, Lost}
use Rattle.one_copy_model.specs.Numbers.{session_of}
use Rattle.one_copy_model.specs.World.{World, GateGives, MaySwap, MayHappen as WorldMay}
use Rattle.one_copy_model.specs.Deaths.{fallen}
use Rattle.one_copy_model.specs.Tracking.{Tracked, first_tracked, tracked_after, attached_in, joined}
use Rattle.recovery_laws.specs.declared.step.Step.{Step}
use Rattle.recovery_laws.specs.declared.step.Step.TheVariants.{Serve, Recover, Answer as Answers}

-- the gate, with the recoveries in its counts; the world of the sessions with the single run beside it, in whose gate the
-- sessions alone are counted; and the recoveries by session's number: where each stands; by backend its transaction there,
-- what it asks, and what it is told and has not taken yet
pub record Pool : Type 0 where
  pub gate : GateState
  pub tracked : Tracked
  pub recovery : ℕ → Standing
  pub transaction : ℕ → ℕ → Transaction
  pub asked : ℕ → ℕ → Option Request
  pub told : ℕ → ℕ → Option Answer

-- at the start no recovery is under way; the tables are those of the layout
abbrev pub first_pool : Layout → ReadPolicy → BackendSet → Pool
first_pool layout policy attached = record {
  gate = first_gate attached;
  tracked = first_tracked layout.tables policy attached;
  recovery = λ s. new_standing (session_of s) layout;
  transaction = λ s b. Absent;
  asked = λ s b. None;
  told = λ s b. None;
}

abbrev pub world_of : Pool → World
world_of p = p.tracked.world

abbrev pub with_two : {A : Type 0} → (ℕ → ℕ → A) → ℕ → ℕ → A → ℕ → ℕ → A
with_two f s b x = with_at f s (with_at (f s) b x)

-- Stores with the transactions of recoveries in them.

-- that of the recovery, where it has one there
abbrev pub either_transaction : Transaction → Transaction → Transaction
either_transaction Absent own = own
either_transaction (Alive t) own = Alive t
either_transaction Dead own = Dead

abbrev pub whole_store : Pool → ℕ → Store
whole_store p b = record ((world_of p).store b) { transaction = λ s. either_transaction (p.transaction s b) (((world_of p).store b).transaction s) }

-- as one recovery finds it
abbrev pub store_for : Pool → ℕ → ℕ → Store
store_for p s b = record ((world_of p).store b) { transaction = with_at ((world_of p).store b).transaction s (p.transaction s b) }

-- Where a step leads.

-- the calls of the gate
abbrev pub call_in : SessionEvent → Option GateCall
call_in (events.Ordered order) = None
call_in (events.Called call answer) = Some call
call_in (events.Posted b request) = None
call_in (events.Taken b answer) = None
call_in (events.Faulted b before count) = None
call_in (events.Detached b cause answer) = Some (calls.Detach b)
call_in (events.Swapped b) = None
call_in (events.Replied outcome status) = None
call_in events.Ended = None

abbrev pub call_of : Step → Option GateCall
call_of (Serve (Of s event)) = call_in event
call_of (Serve (Act s b answer)) = None
call_of (Serve (Lost b)) = None
call_of (Recover s event) = call_in event
call_of (Answers s b answer) = None

abbrev pub gate_after : GateState → Option GateCall → GateState
gate_after gate None = gate
gate_after gate (Some call) = (step gate call).0

-- the sessions' part of the gate: its counts are theirs, and all else is the gate's
abbrev pub sessions_part : GateState → GateState → GateState
sessions_part own whole = record own { attached = whole.attached; epoch = whole.epoch; quiet = whole.quiet; touched = whole.touched }

abbrev pub with_gate : World → GateState → World
with_gate w whole = record w { gate = sessions_part w.gate whole }

abbrev pub with_store : World → ℕ → Store → World
with_store w b st = record w { store = with_at w.store b st }

-- a session whose recovery ends is a new one
abbrev pub with_new : World → ℕ → World
with_new w s = record w { machine = with_at w.machine s (new_machine (session_of s) (w.machine s).session.policy) }

-- what an event of a recovery leaves of the sessions' world
abbrev pub world_recovered : World → GateState → ℕ → SessionEvent → World
world_recovered w gate s (events.Ordered order) = w
world_recovered w gate s (events.Called call answer) = with_gate w gate
world_recovered w gate s (events.Posted b request) = w
world_recovered w gate s (events.Taken b answer) = w
world_recovered w gate s (events.Faulted b before count) = w
world_recovered w gate s (events.Detached b cause answer) = with_gate w gate
world_recovered w gate s (events.Swapped b) = with_store w b.number (prepared w.tables)
world_recovered w gate s (events.Replied outcome status) = w
world_recovered w gate s events.Ended = with_new w s

-- the single run: nothing is added but the deaths, where the last backend is gone on which a transaction was alive. A backend that
-- is attached has done each commit that was left before
abbrev pub with_world : Tracked → World → (ℕ → ℕ → Bool) → Tracked
with_world t w done = record { world = w; history = fallen w t.history 65; orders = t.orders; done = done }

abbrev pub tracked_recovered : Tracked → GateState → ℕ → SessionEvent → Tracked
tracked_recovered t gate s event = with_world t (world_recovered t.world gate s event) (joined t.world (attached_in event) t.done)

-- the requests of a recovery
abbrev pub asked_after : (ℕ → ℕ → Option Request) → ℕ → SessionEvent → ℕ → ℕ → Option Request
asked_after asked s (events.Posted b request) = with_two asked s b.number (Some request)
asked_after asked s (events.Faulted b before count) = with_two asked s b.number None
asked_after asked s event = asked

abbrev pub told_after : (ℕ → ℕ → Option Answer) → ℕ → SessionEvent → ℕ → ℕ → Option Answer
told_after told s (events.Taken b answer) = with_two told s b.number None
told_after told s event = told

-- in a store that was swapped there is no transaction
abbrev pub transactions_after : (ℕ → ℕ → Transaction) → SessionEvent → ℕ → ℕ → Transaction
transactions_after transaction (events.Swapped b) = λ s. with_at (transaction s) b.number Absent
transactions_after transaction event = transaction

abbrev pub recovered : Pool → ℕ → SessionEvent → GateState → Pool
recovered p s event gate = record {
  gate = gate;
  tracked = tracked_recovered p.tracked gate s event;
  recovery = with_at p.recovery s (recovery_after (p.recovery s) event);
  transaction = transactions_after p.transaction event;
  asked = asked_after p.asked s event;
  told = told_after p.told s event;
}

-- an answer to a recovery leaves the store to the sessions as it was, but for its rows, numbers and stale places
abbrev pub store_left : Store → Store → ℕ → Store
store_left old new s = record new { transaction = with_at new.transaction s (old.transaction s); pending = old.pending }

abbrev pub answered_by : Pool → ℕ → ℕ → Answer → Store → Pool
answered_by p s b answer new = record p {
  tracked = with_world p.tracked (with_store (world_of p) b (store_left ((world_of p).store b) new s)) p.tracked.done;
  transaction = with_two p.transaction s b (new.transaction s);
  asked = with_two p.asked s b None;
  told = with_two p.told s b (Some answer);
}

abbrev pub answered : Pool → ℕ → ℕ → Answer → Option Request → Pool
answered p s b answer None = p
answered p s b answer (Some request) = answered_by p s b answer (acted (store_for p s b) s request answer)

abbrev pub after : Pool → Step → Pool
after p (Serve event) = record p { gate = gate_after p.gate (call_of (Serve event)); tracked = tracked_after p.tracked event }
after p (Recover s event) = recovered p s.number event (gate_after p.gate (call_in event))
after p (Answers s b answer) = answered p s.number b.number answer (p.asked s.number b.number)

-- Which step may come.

-- a session whose recovery is under way takes no event; the gate, with the recoveries in it, gives the answer
abbrev pub Rests : Pool → ℕ → Type 0
Rests p s = (p.recovery s).due ≡ Resting

abbrev pub GateLets : Pool → SessionEvent → Type 0
GateLets p (events.Ordered order) = Unit {0}
GateLets p (events.Called call answer) = GateGives p.gate call answer
GateLets p (events.Posted b request) = Unit {0}
GateLets p (events.Taken b answer) = Unit {0}
GateLets p (events.Faulted b before count) = Unit {0}
GateLets p (events.Detached b cause answer) = GateGives p.gate (calls.Detach b) answer
GateLets p (events.Swapped b) = Unit {0}
GateLets p (events.Replied outcome status) = Unit {0}
GateLets p events.Ended = Unit {0}

-- an answer is one that the store, with the recoveries in it, may give
abbrev pub Lets : Pool → Event → Type 0
Lets p (Of s event) = Rests p s.number × GateLets p event
Lets p (Act s b answer) = MayAct (whole_store p b.number) s.number answer
Lets p (Lost b) = Unit {0}

-- PGPOOL RECOVER comes outside a block and an implicit transaction
pub record IsOutside (m : Machine) : Type 0 where
  pub rests : m.point ≡ points.Resting
  pub idle : m.session.status ≡ Idle
  pub out : m.session.gate ≡ Out

abbrev pub LetsOrder : Pool → ℕ → OrderBody → Type 0
LetsOrder p s (orders.Recover number) = IsOutside ((world_of p).machine s)
LetsOrder p s body = Unit {0}

-- a store is swapped where nobody has a request there or is due to post one, recoveries included
pub record MaySwapFor (p : Pool) (b : BackendId) : Type 0 where
  pub sessions : MaySwap (world_of p) b
  pub unasked : (s : ℕ) → p.asked s b.number ≡ None
  pub unposted : (s : ℕ) (request : Request) → ¬ (next_action (p.recovery s) ≡ actions.Post b request)

-- what the rest of the world says of an event of a recovery, as it does of one of a session
abbrev pub LetsRecovery : Pool → ℕ → SessionEvent → Type 0
LetsRecovery p s (events.Ordered order) = LetsOrder p s order.body
LetsRecovery p s (events.Called call answer) = GateGives p.gate call answer
LetsRecovery p s (events.Posted b request) = p.asked s b.number ≡ None
LetsRecovery p s (events.Taken b answer) = p.told s b.number ≡ Some answer
LetsRecovery p s (events.Faulted b before count) = (((world_of p).store b.number).lost ≡ true) × (is_some (p.asked s b.number) ≡ true)
LetsRecovery p s (events.Detached b cause answer) = GateGives p.gate (calls.Detach b) answer
LetsRecovery p s (events.Swapped b) = MaySwapFor p b
LetsRecovery p s (events.Replied outcome status) = Unit {0}
LetsRecovery p s events.Ended = Unit {0}

-- a backend answers what is asked of it, where it is not lost; nobody crosses a request of a recovery
pub record MayTell (p : Pool) (s b : ℕ) (answer : Answer) : Type 0 where
  pub request : Request
  pub asks : p.asked s b ≡ Some request
  pub not_lost : ((world_of p).store b).lost ≡ false
  pub may : MayAnswer (store_for p s b) s (record { request = request; crossed = false }) answer

abbrev pub MayStep : Pool → Step → Type 0
MayStep p (Serve event) = WorldMay (world_of p) event × Lets p event
MayStep p (Recover s event) = RecoveryMay (p.recovery s.number) event × LetsRecovery p s.number event
MayStep p (Answers s b answer) = MayTell p s.number b.number answer

-- Lists of steps.

abbrev pub IsPlayed : Pool → List Step → Type 0
IsPlayed p [] = Unit {0}
IsPlayed p (e ∷ es) = MayStep p e × IsPlayed (after p e) es

abbrev pub pool_all : Pool → List Step → Pool
pool_all p [] = p
pool_all p (e ∷ es) = pool_all (after p e) es

-- events of the sessions, and nothing of a recovery
abbrev pub served : List Event → List Step
served [] = []
served (e ∷ es) = Serve e ∷ served es

-- The replicated world: what it is, where an event leads, which event may come, and schedules.
use Rattle.std.specs.Prelude.{◌≡◌, ℕ, ℤ, zero, suc, true, false, is_some, List, [], ◌∷◌, Option, Some, None}
use Rattle.pool_base.specs.Sets.{has}
use Rattle.pool_base.specs.declared.backend_id.BackendId.{BackendId}
use Rattle.pool_base.specs.declared.backend_set.BackendSet.{BackendSet}
use Rattle.pool_base.specs.declared.gate_call.GateCall.{GateCall}
use Rattle.pool_base.specs.declared.gate_call.GateCall.TheVariants as calls
use Rattle.pool_base.specs.declared.gate_call.GateAnswer.{GateAnswer}
use Rattle.schema.specs.declared.catalogue.TableDef.{TableDef}
use Rattle.backend_trait.specs.declared.answer.Answer.{Answer}
use Rattle.backend_trait.specs.Rows.{with_at}
use Rattle.backend_trait.specs.Runnable.{IsRunnable}
use Rattle.backend_trait.specs.Store.{Store, prepared, posted, lost_by}
use Rattle.session_machine.specs.declared.action.SessionEvent.{SessionEvent}
use Rattle.session_machine.specs.declared.action.SessionEvent.TheVariants as events
use Rattle.session_orders.specs.declared.order.OrderBody.{OrderBody}
use Rattle.session_orders.specs.declared.order.OrderBody.TheVariants as orders
use Rattle.session_machine.specs.declared.machine.ReadPolicy.{ReadPolicy}
use Rattle.session_machine.specs.declared.work.Work.{Work}
use Rattle.session_machine.specs.declared.machine.Session.{Session}
use Rattle.session_machine.specs.declared.machine.Machine.{Machine}
use Rattle.session_machine.specs.declared.machine.Stage.{Stage}
use Rattle.session_machine.specs.declared.machine.Point.TheVariants.{PostDue, Waiting}
use Rattle.session_machine.specs.Classes.{work_in}
use Rattle.session_machine.specs.Rules.{new_machine, moment_at, rewritten, after as machine_after}
use Rattle.session_machine.specs.Allowed.{MayHappen as MachineMay}
use Rattle.snapshot_gate.specs.declared.state.GateState.{GateState}
use Rattle.snapshot_gate.specs.Function.{first as first_gate, step, MayCall}
use Rattle.one_copy_model.specs.declared.event.Event.{Event}
use Rattle.one_copy_model.specs.declared.event.Event.TheVariants.{Of, Act, Lost}
use Rattle.one_copy_model.specs.Marks.{marked}
use Rattle.one_copy_model.specs.SingleRun.{after_answer}
use Rattle.backend_trait.specs.Acting.{MayAct}
use Rattle.one_copy_model.specs.Numbers.{session_of}

-- the tables, the gate, the machine of each session, the store of each backend, and the answers that were given and not taken
-- yet, by session and backend
pub record World : Type 0 where
  pub tables : List TableDef
  pub gate : GateState
  pub machine : ℕ → Machine
  pub store : ℕ → Store
  pub mail : ℕ → ℕ → Option Answer

-- at the start the configured backends are attached, every session is new and every store has the tables without rows
abbrev pub first_world : List TableDef → ReadPolicy → BackendSet → World
first_world tables policy attached = record {
  tables = tables;
  gate = first_gate attached;
  machine = λ s. new_machine (session_of s) policy;
  store = λ b. prepared tables;
  mail = λ s b. None;
}

-- Where an event leads.

-- the gate: by its own step at the calls of a session and at its detachments
abbrev pub gate_after : GateState → SessionEvent → GateState
gate_after gate (events.Ordered order) = gate
gate_after gate (events.Called call answer) = (step gate call).0
gate_after gate (events.Posted b request) = gate
gate_after gate (events.Taken b answer) = gate
gate_after gate (events.Faulted b before after) = gate
gate_after gate (events.Detached b cause answer) = (step gate (calls.Detach b)).0
gate_after gate (events.Swapped b) = gate
gate_after gate (events.Replied outcome status) = gate
gate_after gate events.Ended = gate

-- the stores: a post puts its request at its backend, and the requests that are crossed then are marked; a Swap puts a store
-- without rows in a backend's place
abbrev pub stores_after : List TableDef → (ℕ → Store) → ℕ → SessionEvent → ℕ → Store
stores_after tables store s (events.Ordered order) = store
stores_after tables store s (events.Called call answer) = store
stores_after tables store s (events.Posted b request) = with_at store b.number (marked (posted (store b.number) s request))
stores_after tables store s (events.Taken b answer) = store
stores_after tables store s (events.Faulted b before after) = store
stores_after tables store s (events.Detached b cause answer) = store
stores_after tables store s (events.Swapped b) = with_at store b.number (prepared tables)
stores_after tables store s (events.Replied outcome status) = store
stores_after tables store s events.Ended = store

-- the mail: an answer that is taken is there no more
abbrev pub with_mail : (ℕ → ℕ → Option Answer) → ℕ → ℕ → Option Answer → ℕ → ℕ → Option Answer
with_mail mail s b answer = with_at mail s (with_at (mail s) b answer)

abbrev pub mail_after : (ℕ → ℕ → Option Answer) → ℕ → SessionEvent → ℕ → ℕ → Option Answer
mail_after mail s (events.Ordered order) = mail
mail_after mail s (events.Called call answer) = mail
mail_after mail s (events.Posted b request) = mail
mail_after mail s (events.Taken b answer) = with_mail mail s b.number None
mail_after mail s (events.Faulted b before after) = mail
mail_after mail s (events.Detached b cause answer) = mail
mail_after mail s (events.Swapped b) = mail
mail_after mail s (events.Replied outcome status) = mail
mail_after mail s events.Ended = mail

abbrev pub after : World → Event → World
after w (Of s event) = record {
  tables = w.tables;
  gate = gate_after w.gate event;
  machine = with_at w.machine s.number (machine_after (w.machine s.number) event);
  store = stores_after w.tables w.store s.number event;
  mail = mail_after w.mail s.number event;
}
after w (Act s b answer) = record {
  tables = w.tables;
  gate = w.gate;
  machine = w.machine;
  store = with_at w.store b.number (marked (after_answer (w.store b.number) s.number answer));
  mail = with_mail w.mail s.number b.number (Some answer);
}
after w (Lost b) = record {
  tables = w.tables;
  gate = w.gate;
  machine = w.machine;
  store = with_at w.store b.number (lost_by (w.store b.number));
  mail = w.mail;
}

-- Which event may come.

-- the call meets its condition at the gate, and the gate gives just that answer
abbrev pub GateGives : GateState → GateCall → GateAnswer → Type 0
GateGives gate call answer = MayCall gate call × ((step gate call).1 ≡ answer)

-- a request of the session waits at the store
abbrev pub IsPending : Store → ℕ → Type 0
IsPending st s = is_some (st.pending s) ≡ true

-- a store may be swapped where its backend is detached, and no session has a request there or is due to post one
pub record IsAsking (w : World) (s : ℕ) (b : BackendId) : Type 0 where
  pub stage : Stage
  pub waits : (w.machine s).point ≡ Waiting stage b
  pub untold : w.mail s b.number ≡ None

pub record IsToAsk (w : World) (s : ℕ) (b : BackendId) : Type 0 where
  pub stage : Stage
  pub due : (w.machine s).point ≡ PostDue stage b

pub record MaySwap (w : World) (b : BackendId) : Type 0 where
  pub detached : has w.gate.attached.bits b.number ≡ false
  pub unasked : (s : ℕ) → ¬ (IsAsking w s b)
  pub unposted : (s : ℕ) → ¬ (IsToAsk w s b)

-- a statement that is ordered can be run by stores of the tables, as it is written at its moment
abbrev pub IsRunnableIn : List TableDef → Option Work → Type 0
IsRunnableIn tables None = Unit {0}
IsRunnableIn tables (Some work) = IsRunnable tables work.statement

abbrev pub IsOrderable : List TableDef → Session → ℤ → OrderBody → Type 0
IsOrderable tables session moment (orders.Statement checked) =
    IsRunnableIn tables (rewritten (moment_at session.status session.gate session.moment moment) (work_in checked))
IsOrderable tables session moment body = Unit {0}

-- what the rest of the world says of an event of a session: a statement can be run on the tables; the gate gives that answer; nothing
-- of the session waits where it posts; what it takes is what the backend has answered; a backend whose loss it sees is lost, and was
-- still to answer; a Swap is a recovery's, whose machine alone may make it
abbrev pub Lets : World → ℕ → SessionEvent → Type 0
Lets w s (events.Ordered order) = IsOrderable w.tables (w.machine s).session order.moment order.body
Lets w s (events.Called call answer) = GateGives w.gate call answer
Lets w s (events.Posted b request) = (w.store b.number).pending s ≡ None
Lets w s (events.Taken b answer) = w.mail s b.number ≡ Some answer
Lets w s (events.Faulted b before after) = ((w.store b.number).lost ≡ true) × IsPending (w.store b.number) s
Lets w s (events.Detached b cause answer) = GateGives w.gate (calls.Detach b) answer
Lets w s (events.Swapped b) = MaySwap w b
Lets w s (events.Replied outcome status) = Unit {0}
Lets w s events.Ended = Unit {0}

-- an event of a session may come where its machine and the rest of the world let it; an act where the store may give that
-- answer; a loss at any moment, once
abbrev pub MayHappen : World → Event → Type 0
MayHappen w (Of s event) = MachineMay (w.machine s.number) event × Lets w s.number event
MayHappen w (Act s b answer) = MayAct (w.store b.number) s.number answer
MayHappen w (Lost b) = (w.store b.number).lost ≡ false

-- Schedules.

-- each event may come where it stands
abbrev pub IsSchedule : World → List Event → Type 0
IsSchedule w [] = Unit {0}
IsSchedule w (e ∷ es) = MayHappen w e × IsSchedule (after w e) es

abbrev pub after_all : World → List Event → World
after_all w [] = w
after_all w (e ∷ es) = after_all (after w e) es

-- the event of that number is the first that may not come
abbrev pub FailsAt : World → List Event → ℕ → Type 0
FailsAt w [] n = ⊥
FailsAt w (e ∷ es) zero = ¬ (MayHappen w e)
FailsAt w (e ∷ es) (suc n) = MayHappen w e × FailsAt (after w e) es n

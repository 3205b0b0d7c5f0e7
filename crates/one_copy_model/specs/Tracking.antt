-- A world with the run of the single store beside it, and with what each session was told to do.
use Rattle.std.specs.Prelude.{ℕ, ℤ, Bool, true, false, not, if◌then◌else◌, List, [], ◌∷◌, length, Option, Some, None}
use Rattle.pool_base.specs.declared.backend_set.BackendSet.{BackendSet}
use Rattle.pool_base.specs.declared.code.Code.{Code}
use Rattle.pool_base.specs.declared.gate_call.GateCall.{GateCall}
use Rattle.pool_base.specs.declared.gate_call.GateCall.TheVariants as calls
use Rattle.pool_base.specs.declared.gate_call.GateAnswer.{GateAnswer}
use Rattle.pool_base.specs.declared.gate_call.GateAnswer.TheVariants.{Granted, Spent}
use Rattle.schema.specs.declared.catalogue.TableDef.{TableDef}
use Rattle.backend_trait.specs.declared.request.Request.{Request}
use Rattle.backend_trait.specs.declared.request.Request.TheVariants as requests
use Rattle.backend_trait.specs.Rows.{with_at}
use Rattle.backend_trait.specs.Store.{Store, Pending}
use Rattle.session_orders.specs.declared.order.Order.{Order}
use Rattle.session_machine.specs.declared.status.Status.{Status}
use Rattle.session_machine.specs.declared.action.SessionEvent.{SessionEvent}
use Rattle.session_machine.specs.declared.action.SessionEvent.TheVariants as events
use Rattle.session_machine.specs.declared.machine.ReadPolicy.{ReadPolicy}
use Rattle.session_machine.specs.declared.machine.GatePhase.{GatePhase}
use Rattle.session_machine.specs.declared.machine.GatePhase.TheVariants.{InCommit}
use Rattle.session_machine.specs.declared.machine.Session.{Session}
use Rattle.session_machine.specs.declared.machine.Machine.{Machine}
use Rattle.session_machine.specs.Allowed.{is_out}
use Rattle.session_machine.specs.Rules.{moment_at}
use Rattle.one_copy_model.specs.declared.deed.Deed.{Deed}
use Rattle.one_copy_model.specs.declared.deed.Deed.TheVariants.{Gets}
use Rattle.one_copy_model.specs.declared.deed.Entry.{Entry}
use Rattle.one_copy_model.specs.declared.event.Event.{Event}
use Rattle.one_copy_model.specs.declared.event.Event.TheVariants.{Of, Act, Lost}
use Rattle.one_copy_model.specs.World.{World, first_world, after}
use Rattle.one_copy_model.specs.SingleRun.{store_after, amended}
use Rattle.one_copy_model.specs.Places.{place_of, opening_of, refused_opening, code_in}
use Rattle.one_copy_model.specs.Deaths.{is_live, is_alive, recorded, fallen}

-- the order under way of a session, and what stood then: the client's block, whether a transaction was open, the moment of the
-- statement, how many entries the single run had; and since: whether the gate's counts were spent, whether its commit was entered
pub record Told : Type 0 where
  pub order : Order
  pub status : Status
  pub begun : Bool
  pub moment : ℤ
  pub entries : ℕ
  pub spent : Bool
  pub entered : Bool

-- the world, the single run, newest entry first, the orders under way, and, by session and backend, who has done the commit
-- that the session entered last
pub record Tracked : Type 0 where
  pub world : World
  pub history : List Entry
  pub orders : ℕ → Option Told
  pub done : ℕ → ℕ → Bool

abbrev pub first_tracked : List TableDef → ReadPolicy → BackendSet → Tracked
first_tracked tables policy attached =
    record { world = first_world tables policy attached; history = []; orders = λ s. None; done = λ s b. false }

abbrev pub single : Tracked → Store
single t = store_after t.world.tables t.history

-- The single run.

-- what an event of a session adds: where it has a live transaction in the single run, the acts at that place; else an opening
-- of a transaction that is alive somewhere, an opening that is refused, or the reason of its latest death
abbrev pub with_code : ℕ → Option Code → List Entry → List Entry
with_code s None history = history
with_code s (Some code) history = amended s code history

abbrev pub opened_if : Bool → ℕ → List Deed → List Entry → List Entry
opened_if true s deeds history = recorded s deeds history
opened_if false s deeds history = history

abbrev pub placed : Bool → World → ℕ → Machine → SessionEvent → List Entry → List Entry
placed true w s m event history = recorded s (place_of m.session m.point event) history
placed false w s m event history =
    recorded s (refused_opening m.session m.point event)
    (opened_if (is_alive w s) s (opening_of m.point event) (with_code s (code_in (place_of m.session m.point event)) history))

-- where a detachment decides that a run has its result, the deaths that it brings come before: who was alive only at the backend that
-- leaves holds its rows no longer
abbrev pub deaths_first : World → SessionEvent → List Deed → List Entry → List Entry
deaths_first new (events.Detached b cause answer) (Gets result ∷ []) history = fallen new history 65
deaths_first new event deeds history = history

abbrev pub history_after : Tracked → Event → World → List Entry
history_after t (Of s event) new =
    fallen new (placed (is_live ((single t).transaction s.number)) t.world s.number (t.world.machine s.number) event
    (deaths_first new event (place_of (t.world.machine s.number).session (t.world.machine s.number).point event) t.history)) 65
history_after t (Act s b answer) new = fallen new t.history 65
history_after t (Lost b) new = fallen new t.history 65

-- The orders under way.

abbrev pub told_at : Session → Order → ℕ → Told
told_at session order entries = record {
  order = order;
  status = session.status;
  begun = not (is_out session.gate);
  moment = moment_at session.status session.gate session.moment order.moment;
  entries = entries;
  spent = false;
  entered = false;
}

abbrev pub told_spent : Option Told → Option Told
told_spent None = None
told_spent (Some told) = Some (record told { spent = true })

abbrev pub told_entered : Option Told → Option Told
told_entered None = None
told_entered (Some told) = Some (record told { entered = true })

abbrev pub told_called : GateCall → GateAnswer → Option Told → Option Told
told_called calls.EnterSnapshot Spent told = told_spent told
told_called (calls.EnterCommit tables) (Granted view) told = told_entered told
told_called call answer told = told

abbrev pub told_after : Session → ℕ → SessionEvent → Option Told → Option Told
told_after session entries (events.Ordered order) told = Some (told_at session order entries)
told_after session entries (events.Called call answer) told = told_called call answer told
told_after session entries (events.Posted b request) told = told
told_after session entries (events.Taken b answer) told = told
told_after session entries (events.Faulted b before more) told = told
told_after session entries (events.Detached b cause answer) told = told
told_after session entries (events.Swapped b) told = told
told_after session entries (events.Replied outcome status) told = None
told_after session entries events.Ended told = None

abbrev pub orders_after : Tracked → Event → ℕ → Option Told
orders_after t (Of s event) =
    with_at t.orders s.number (told_after (t.world.machine s.number).session (length t.history) event (t.orders s.number))
orders_after t (Act s b answer) = t.orders
orders_after t (Lost b) = t.orders

-- Who has done a commit: nobody when it is entered, then each backend that answers it.

abbrev pub nobody : ℕ → Bool
nobody b = false

abbrev pub done_called : GateCall → GateAnswer → (ℕ → Bool) → ℕ → Bool
done_called (calls.EnterCommit tables) (Granted view) done = nobody
done_called call answer done = done

abbrev pub done_of : SessionEvent → (ℕ → Bool) → ℕ → Bool
done_of (events.Called call answer) done = done_called call answer done
done_of event done = done

abbrev pub in_commit : GatePhase → Bool
in_commit InCommit = true
in_commit phase = false

abbrev pub is_commit : Request → Bool
is_commit requests.Commit = true
is_commit request = false

abbrev pub waits_for_commit : Option Pending → Bool
waits_for_commit None = false
waits_for_commit (Some p) = is_commit p.request

-- a backend that is attached has each commit that was left before
abbrev pub attached_in : SessionEvent → Option ℕ
attached_in (events.Called (calls.Attach b) (Granted view)) = Some b.number
attached_in event = None

abbrev pub joined : World → Option ℕ → (ℕ → ℕ → Bool) → ℕ → ℕ → Bool
joined w None done = done
joined w (Some b) done = λ s. if in_commit (w.machine s).session.gate then done s else with_at (done s) b true

abbrev pub done_after : Tracked → Event → ℕ → ℕ → Bool
done_after t (Of s event) = joined t.world (attached_in event) (with_at t.done s.number (done_of event (t.done s.number)))
done_after t (Act s b answer) =
    if waits_for_commit ((t.world.store b.number).pending s.number)
    then with_at t.done s.number (with_at (t.done s.number) b.number true) else t.done
done_after t (Lost b) = t.done

abbrev pub tracked_after : Tracked → Event → Tracked
tracked_after t e = record {
  world = after t.world e;
  history = history_after t e (after t.world e);
  orders = orders_after t e;
  done = done_after t e;
}

abbrev pub tracked_all : Tracked → List Event → Tracked
tracked_all t [] = t
tracked_all t (e ∷ es) = tracked_all (tracked_after t e) es

-- the single run of a schedule
abbrev pub single_run : List TableDef → ReadPolicy → BackendSet → List Event → List Entry
single_run tables policy attached events = (tracked_all (first_tracked tables policy attached) events).history

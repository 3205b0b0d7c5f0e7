-- Which step a session takes, by what is asked for.
use Rattle.std.specs.Prelude.{◌≡◌, ℕ, ℤ, Bool, true, false, List, Option, Some, None, slice_get}
use Rattle.pool_base.specs.declared.backend_id.BackendId.{BackendId}
use Rattle.pool_base.specs.declared.session_id.SessionId.{SessionId}
use Rattle.pool_base.specs.declared.gate_call.GateCall.{GateCall}
use Rattle.pool_base.specs.declared.gate_call.GateCall.TheVariants as calls
use Rattle.pool_base.specs.declared.gate_call.GateAnswer.{GateAnswer}
use Rattle.pool_base.specs.declared.gate_call.GateAnswer.TheVariants.{Seen, Granted, Held, Spent}
use Rattle.schema.specs.declared.catalogue.TableDef.{TableDef}
use Rattle.pgproto.specs.declared.line.Mark.{Mark}
use Rattle.pgproto.specs.declared.line.Mark.TheVariants as marks
use Rattle.backend_trait.specs.declared.answer.Polled.{Polled}
use Rattle.backend_trait.specs.declared.answer.Polled.TheVariants as polls
use Rattle.backend_trait.specs.Store.{Store}
use Rattle.backend_trait.specs.Acts.{InForm, IsPromptly}
use Rattle.snapshot_gate.specs.declared.state.GateState.{GateState}
use Rattle.snapshot_gate.specs.Function as gates
use Rattle.session_orders.specs.declared.order.OrderBody.{OrderBody}
use Rattle.session_orders.specs.declared.order.OrderBody.TheVariants as orders
use Rattle.session_machine.specs.Rules.{next_action}
use Rattle.session_engine.specs.declared.ask.Ask.{Ask}
use Rattle.session_engine.specs.declared.ask.Ask.TheVariants as asks
use Rattle.session_engine.specs.Cores.{machine_in}
use Rattle.session_engine.specs.Handing.{asked_of}
use Rattle.session_wire.specs.declared.wire.WireStep.{WireStep}
use Rattle.session_wire.specs.declared.wire.WireStep.TheVariants as wires
use Rattle.session_wire.specs.Shown.{View, shown}
use Rattle.session_wire.specs.Steps.{IsNext}
use Rattle.session_seat.specs.declared.seat.Seat.{Seat}
use Rattle.session_seat.specs.declared.step.Step.{Step}
use Rattle.session_seat.specs.declared.step.Step.TheVariants as step

-- The gate.

-- the mark of an entry that is granted; no other call has one
abbrev pub entry_mark : GateCall → Option Mark
entry_mark calls.Look = None
entry_mark calls.EnterSnapshot = Some marks.Snapshot
entry_mark calls.LeaveSnapshot = None
entry_mark (calls.EnterCommit tables) = Some marks.Commit
entry_mark calls.LeaveCommit = None
entry_mark calls.Finish = None
entry_mark (calls.Detach b) = None
entry_mark calls.StartCopy = None
entry_mark calls.AskQuiet = None
entry_mark calls.EnterQuiet = None
entry_mark (calls.Attach b) = None
entry_mark calls.LeaveQuiet = None

abbrev pub mark_of : GateCall → GateAnswer → Option Mark
mark_of call (Seen view) = None
mark_of call (Granted view) = entry_mark call
mark_of call (Held count) = None
mark_of call Spent = None

-- a session waits where the gate holds its call; else the call takes place
abbrev pub called : GateCall → GateAnswer → Step
called call (Seen view) = step.Did None
called call (Granted view) = step.Did (entry_mark call)
called call (Held count) = step.Waits
called call Spent = step.Did None

-- A backend.

-- a look for the answer to a request of session s finds that, at the backend with that number, which is one of these boxes: what it leaves is as the contract
-- of backends says, and a prompt one has no answer yet only where the request has to wait for another session
pub record LooksAt {X : Type 0} (meaning : X → Store) (is_prompt : X → Bool) (shelf : List X) (s b : ℕ) (polled : Polled) : Type 0 where
  pub backend : X
  pub there : slice_get shelf b ≡ Some backend
  pub before : ℕ
  pub later : ℕ
  pub left : Store
  pub form : InForm (meaning backend) s polled before later left
  pub promptly : is_prompt backend ≡ true → IsPromptly (meaning backend) s polled

-- a session waits where there is no answer yet
abbrev pub Hears : BackendId → Polled → Step → Type 0
Hears b (polls.Answered answer) did = did ≡ step.Did (Some (marks.Answer b))
Hears b polls.NotYet did = did ≡ step.Waits
Hears b polls.Lost did = did ≡ step.Did None
Hears b polls.NoMemory did = ⊥

unfoldable pub WaitsFor : {X : Type 0} → (X → Store) → (X → Bool) → List X → SessionId → BackendId → Step → Type 0
WaitsFor {X} meaning is_prompt shelf s b did = (polled : Polled) × LooksAt meaning is_prompt shelf s.number b.number polled × Hears b polled did

-- The client.

-- the backend of the number that is to be brought in, where that is ordered
abbrev pub recovery_in : OrderBody → Option ℕ
recovery_in (orders.Recover number) = Some number
recovery_in body = None

-- an order takes place; that of a recovery is handed out
abbrev pub ordered_step : ℤ → Option ℕ → Step
ordered_step moment None = step.Did (Some marks.Order)
ordered_step moment (Some number) = step.Recovers moment number

-- where the wire needs input there is nothing to do, and where it is closed the session is
abbrev pub Follows : WireStep → Step → Type 0
Follows (wires.Order order) did = did ≡ ordered_step order.moment (recovery_in order.body)
Follows wires.NeedInput did = did ≡ step.Idle
Follows wires.NeedOutcome did = ⊥
Follows (wires.Close refused) did = did ≡ step.Closed

-- the step by what comes next of the client
unfoldable pub Rests : List TableDef → ℤ → View → Step → Type 0
Rests tables moment view did = (next : WireStep) × (after : View) × IsNext tables moment view next after × Follows next did

-- All of it.

abbrev pub IsAsked : {X : Type 0} → (X → Store) → (X → Bool) → List TableDef → ℤ → Seat → GateState → List X → Ask → Step → Type 0
IsAsked {X} meaning is_prompt tables moment seat gate shelf asks.Rest did = Rests tables moment (shown seat.wire) did
IsAsked {X} meaning is_prompt tables moment seat gate shelf (asks.Gate call) did = did ≡ called call (gates.step gate call).1
IsAsked {X} meaning is_prompt tables moment seat gate shelf (asks.Post b) did = did ≡ step.Did (Some (marks.Post b))
IsAsked {X} meaning is_prompt tables moment seat gate shelf (asks.WaitFor b) did = WaitsFor meaning is_prompt shelf seat.s b did
IsAsked {X} meaning is_prompt tables moment seat gate shelf (asks.Detach b) did = did ≡ step.Did None
IsAsked {X} meaning is_prompt tables moment seat gate shelf asks.Reply did = did ≡ step.Did (Some marks.Reply)
IsAsked {X} meaning is_prompt tables moment seat gate shelf asks.End did = did ≡ step.Did None

-- a session that is over is closed; of another that is done which is asked for
abbrev pub IsOfTurn : {X : Type 0} → Bool → (X → Store) → (X → Bool) → List TableDef → ℤ → Seat → GateState → List X → Step → Type 0
IsOfTurn {X} true meaning is_prompt tables moment seat gate shelf did = did ≡ step.Closed
IsOfTurn {X} false meaning is_prompt tables moment seat gate shelf did =
    IsAsked meaning is_prompt tables moment seat gate shelf (asked_of (next_action (machine_in seat.core))) did

unfoldable pub IsDue : {X : Type 0} → (X → Store) → (X → Bool) → List TableDef → ℤ → Seat → GateState → List X → Step → Type 0
IsDue {X} meaning is_prompt tables moment seat gate shelf did = IsOfTurn seat.over meaning is_prompt tables moment seat gate shelf did

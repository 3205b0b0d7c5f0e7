-- Runs of a recovery: lists of events, each of which may happen where it stands; and what they keep to.
use Rattle.std.specs.Prelude.{◌≡◌, ℕ, Bool, true, false, List, [], ◌∷◌, Option, Some, None}
use Rattle.pool_base.specs.declared.gate_call.GateCall.{GateCall}
use Rattle.pool_base.specs.declared.gate_call.GateCall.TheVariants as calls
use Rattle.pool_base.specs.declared.gate_call.GateAnswer.{GateAnswer}
use Rattle.pool_base.specs.declared.gate_call.GateAnswer.TheVariants.{Seen, Granted, Held as IsHeld, Spent}
use Rattle.session_orders.specs.declared.order.OrderBody.{OrderBody}
use Rattle.session_orders.specs.declared.order.OrderBody.TheVariants as orders
use Rattle.session_orders.specs.declared.outcome.Outcome.{Outcome}
use Rattle.session_orders.specs.declared.outcome.Outcome.TheVariants as outcomes
use Rattle.session_machine.specs.declared.action.SessionEvent.{SessionEvent}
use Rattle.session_machine.specs.declared.action.SessionEvent.TheVariants as events
use Rattle.online_recovery.specs.declared.standing.Quiet.{Quiet}
use Rattle.online_recovery.specs.declared.standing.Quiet.TheVariants.{Open, Copying, Asked, Entered}
use Rattle.online_recovery.specs.declared.standing.GateStanding.{GateStanding}
use Rattle.online_recovery.specs.declared.standing.GateStanding.TheVariants.{Out, InSnapshot, Live}
use Rattle.online_recovery.specs.declared.standing.Standing.{Standing}
use Rattle.online_recovery.specs.Rules.{after}
use Rattle.online_recovery.specs.Allowed.{MayHappen}

abbrev pub IsRun : Standing → List SessionEvent → Type 0
IsRun s [] = Unit {0}
IsRun s (e ∷ es) = MayHappen s e × IsRun (after s e) es

abbrev pub after_all : Standing → List SessionEvent → Standing
after_all s [] = s
after_all s (e ∷ es) = after_all (after s e) es

-- Where a caller stands at the gate, by its granted calls alone.

pub record Phase : Type 0 where
  pub gate : GateStanding
  pub quiet : Quiet

abbrev pub outside : Phase
outside = record { gate = Out; quiet = Open }

abbrev pub phase_granted : Phase → GateCall → Phase
phase_granted p calls.Look = p
phase_granted p calls.EnterSnapshot = record p { gate = InSnapshot }
phase_granted p calls.LeaveSnapshot = record p { gate = Live }
phase_granted p (calls.EnterCommit tables) = p
phase_granted p calls.LeaveCommit = record p { gate = Out }
phase_granted p calls.Finish = record p { gate = Out }
phase_granted p (calls.Detach b) = p
phase_granted p calls.StartCopy = record p { quiet = Copying }
phase_granted p calls.AskQuiet = record p { quiet = Asked }
phase_granted p calls.EnterQuiet = record p { quiet = Entered }
phase_granted p (calls.Attach b) = p
phase_granted p calls.LeaveQuiet = record p { quiet = Open }

abbrev pub phase_called : Phase → GateCall → GateAnswer → Phase
phase_called p call (Seen view) = p
phase_called p call (Granted view) = phase_granted p call
phase_called p call (IsHeld count) = p
phase_called p call Spent = p

abbrev pub phase_after : Phase → SessionEvent → Phase
phase_after p (events.Ordered order) = p
phase_after p (events.Called call answer) = phase_called p call answer
phase_after p (events.Swapped b) = p
phase_after p (events.Posted b request) = p
phase_after p (events.Taken b answer) = p
phase_after p (events.Faulted b before count) = p
phase_after p (events.Detached b cause answer) = p
phase_after p (events.Replied outcome status) = p
phase_after p events.Ended = p

-- the gate's condition: a recovery takes its snapshot while it copies, and attaches where it has entered the quiet
abbrev pub MeetsIn : Phase → GateCall → Type 0
MeetsIn p calls.Look = Unit {0}
MeetsIn p calls.EnterSnapshot = (p.gate ≡ Out) × (p.quiet ≡ Copying)
MeetsIn p calls.LeaveSnapshot = p.gate ≡ InSnapshot
MeetsIn p (calls.EnterCommit tables) = ⊥
MeetsIn p calls.LeaveCommit = ⊥
MeetsIn p calls.Finish = p.gate ≡ Live
MeetsIn p (calls.Detach b) = ⊥
MeetsIn p calls.StartCopy = (p.gate ≡ Out) × (p.quiet ≡ Open)
MeetsIn p calls.AskQuiet = (p.gate ≡ Out) × (p.quiet ≡ Copying)
MeetsIn p calls.EnterQuiet = (p.gate ≡ Out) × (p.quiet ≡ Asked)
MeetsIn p (calls.Attach b) = (p.gate ≡ Out) × (p.quiet ≡ Entered)
MeetsIn p calls.LeaveQuiet = (p.gate ≡ Out) × ¬ (p.quiet ≡ Open)

-- a detachment is an event of its own, and asks for nothing; at a reply and an end nothing is held
abbrev pub Meets : Phase → SessionEvent → Type 0
Meets p (events.Ordered order) = Unit {0}
Meets p (events.Called call answer) = MeetsIn p call
Meets p (events.Swapped b) = (p.gate ≡ Out) × (p.quiet ≡ Copying)
Meets p (events.Posted b request) = Unit {0}
Meets p (events.Taken b answer) = Unit {0}
Meets p (events.Faulted b before count) = Unit {0}
Meets p (events.Detached b cause answer) = Unit {0}
Meets p (events.Replied outcome status) = (p.gate ≡ Out) × (p.quiet ≡ Open)
Meets p events.Ended = (p.gate ≡ Out) × (p.quiet ≡ Open)

abbrev pub CallsMeet : Phase → List SessionEvent → Type 0
CallsMeet p [] = Unit {0}
CallsMeet p (e ∷ es) = Meets p e × CallsMeet (phase_after p e) es

-- Whether the target was attached since the order that is under way, and what is replied.

abbrev pub attached_ordered : OrderBody → Bool → Bool
attached_ordered (orders.Recover number) attached = false
attached_ordered body attached = attached

abbrev pub attached_called : GateCall → GateAnswer → Bool → Bool
attached_called (calls.Attach b) (Granted view) attached = true
attached_called call answer attached = attached

abbrev pub attached_after : SessionEvent → Bool → Bool
attached_after (events.Ordered order) attached = attached_ordered order.body attached
attached_after (events.Called call answer) attached = attached_called call answer attached
attached_after (events.Swapped b) attached = attached
attached_after (events.Posted b request) attached = attached
attached_after (events.Taken b answer) attached = attached
attached_after (events.Faulted b before count) attached = attached
attached_after (events.Detached b cause answer) attached = attached
attached_after (events.Replied outcome status) attached = false
attached_after events.Ended attached = false

-- an outcome that is no refusal
abbrev pub is_done : Outcome → Bool
is_done (outcomes.Rows rows tag) = true
is_done (outcomes.Done tag warning) = true
is_done outcomes.Settled = true
is_done (outcomes.Nodes set) = true
is_done (outcomes.Error code name) = false

abbrev pub ReplyMeets : Bool → SessionEvent → Type 0
ReplyMeets attached (events.Replied outcome status) = is_done outcome ≡ attached
ReplyMeets attached event = Unit {0}

abbrev pub RepliesMeet : Bool → List SessionEvent → Type 0
RepliesMeet attached [] = Unit {0}
RepliesMeet attached (e ∷ es) = ReplyMeets attached e × RepliesMeet (attached_after e attached) es

-- The number of the backend that the order under way names: what is swapped and what is attached is the backend of that number.

abbrev pub named_ordered : OrderBody → Option ℕ → Option ℕ
named_ordered (orders.Recover number) named = Some number
named_ordered body named = named

abbrev pub named_after : SessionEvent → Option ℕ → Option ℕ
named_after (events.Ordered order) named = named_ordered order.body named
named_after (events.Called call answer) named = named
named_after (events.Swapped b) named = named
named_after (events.Posted b request) named = named
named_after (events.Taken b answer) named = named
named_after (events.Faulted b before count) named = named
named_after (events.Detached b cause answer) named = named
named_after (events.Replied outcome status) named = None
named_after events.Ended named = None

abbrev pub CallIsNamed : Option ℕ → GateCall → Type 0
CallIsNamed named (calls.Attach b) = named ≡ Some b.number
CallIsNamed named call = Unit {0}

abbrev pub IsNamed : Option ℕ → SessionEvent → Type 0
IsNamed named (events.Called call answer) = CallIsNamed named call
IsNamed named (events.Swapped b) = named ≡ Some b.number
IsNamed named event = Unit {0}

abbrev pub AreNamed : Option ℕ → List SessionEvent → Type 0
AreNamed named [] = Unit {0}
AreNamed named (e ∷ es) = IsNamed named e × AreNamed (named_after e named) es

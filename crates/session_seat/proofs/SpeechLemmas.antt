-- What the client of a session is told, one message behind another and step by step.
use Rattle.std.proofs.Common.{Result, Ok, Err, ◌≡◌, ◌<◌, ℕ, Bool, true, false, List, [], ◌∷◌, ◌++◌, length, drop, refl, sym, ap, ◌∙◌, subst, append_assoc, inl, inr, arith}
use Rattle.std.specs.Prelude.{ℤ, Option, Some, None, IfOk, OnOk}
use Rattle.std.proofs.lemmas.List.{append-nil}
use Rattle.pool_base.specs.declared.session_id.SessionId.{SessionId}
use Rattle.pool_base.specs.declared.backend_id.BackendId.{BackendId}
use Rattle.pool_base.specs.declared.gate_call.GateAnswer.{GateAnswer}
use Rattle.pool_config.specs.declared.config.Node.{Node}
use Rattle.schema.specs.declared.catalogue.TableDef.{TableDef}
use Rattle.pg_messages.specs.declared.server.ServerMessage.{ServerMessage}
use Rattle.pg_messages.specs.Frame.{BeginsWith}
use Rattle.pg_messages.specs.Server.{IsServerForm}
use Rattle.session_orders.specs.declared.order.Order.{Order}
use Rattle.session_orders.specs.declared.order.OrderBody.{OrderBody}
use Rattle.session_orders.specs.declared.order.OrderBody.TheVariants as orders
use Rattle.session_orders.specs.declared.outcome.Outcome.{Outcome}
use Rattle.session_machine.specs.declared.status.Status.{Status}
use Rattle.session_machine.specs.declared.action.Action.{Action}
use Rattle.session_machine.specs.declared.action.Action.TheVariants as actions
use Rattle.session_machine.specs.declared.action.Cause.{Cause}
use Rattle.session_machine.specs.declared.action.SessionEvent.{SessionEvent}
use Rattle.session_machine.specs.declared.action.SessionEvent.TheVariants as events
use Rattle.session_machine.specs.declared.machine.Machine.{Machine}
use Rattle.session_machine.specs.declared.machine.ReadPolicy.{ReadPolicy}
use Rattle.session_machine.specs.Rules.{status_byte}
use Rattle.session_engine.specs.Handing.{Detaches}
use Rattle.wire_session.specs.Kept.{HasNone}
use Rattle.session_wire.specs.declared.due.Due.{Due}
use Rattle.session_wire.specs.declared.due.Due.TheVariants as dues
use Rattle.session_wire.specs.declared.wire.WireStep.{WireStep}
use Rattle.session_wire.specs.declared.wire.WireStep.TheVariants as wires
use Rattle.session_wire.specs.Answers.{IsHeard, IsHeardAt, Says as SaysOutcome, ends_block, implicit_after, keeps_portals, left_after, skips}
use Rattle.session_wire.specs.Shown.{View, frame_of}
use Rattle.session_wire.specs.Steps.{IsNext}
use Rattle.session_seat.specs.declared.book.Journal.{Journal}
use Rattle.session_seat.specs.declared.step.Step.{Step}
use Rattle.session_seat.specs.declared.step.Step.TheVariants as steps
use Rattle.session_seat.specs.Shared.{Shared}
use Rattle.session_seat.specs.Steps.{IsStep, Stand, TookPlace, at}
use Rattle.session_seat.specs.Dues.{recovery_in}
use Rattle.session_seat.specs.Speech.{AreShown, Asks, Closes, IsOrdered, IsQuiet, IsQuietStep, IsShown, IsWritten, Says, Speaks, Speech, closed_line, message_line, recovering, saying, told_detached}

-- One message behind another.

-- some messages at the front have these lines, whatever those of the rest are
abbrev pub Shows : ℕ → List ℕ → List ℕ → List ℕ → Type 0
Shows s bytes rest front = (messages : List ServerMessage) (text : List ℕ) → AreShown s messages rest text → IsShown s bytes (front ++ text)

pub shows_none : (s : ℕ) (bytes : List ℕ) → Shows s bytes bytes []
shows_none s bytes messages text are = (messages, are)

pub shows_on : (s : ℕ) (bytes rest front : List ℕ) (message : ServerMessage) (n : ℕ) → 0 < n → BeginsWith IsServerForm message n rest → Shows s bytes rest front
    → Shows s bytes (drop n rest) (front ++ message_line s message)
shows_on s bytes rest front message n some begins shows messages text are =
    subst (IsShown s bytes) (sym (append_assoc front (message_line s message) text)) (shows (message ∷ messages) (message_line s message ++ text) (n, some, begins, (text, are, refl)))

pub shows_all : (s : ℕ) (bytes rest front : List ℕ) → length rest ≡ 0 → Shows s bytes rest front → IsShown s bytes front
shows_all s bytes [] front none shows = subst (IsShown s bytes) (append-nil front) (shows [] [] (refl, refl))
shows_all s bytes (b ∷ rest) front none shows = absurd (omega (arith, none))

-- What a wire is led to.

pub asks_now : (tables : List TableDef) (moment used : ℤ) (s : ℕ) (old new : Speech) (behind : View) (found next : WireStep) → used ≡ moment → IsNext tables used old.view found behind → found ≡ next
    → IsWritten s behind new.view old.lines new.lines → new.over ≡ old.over → Asks tables moment s old next new
asks_now tables moment used s old new behind found next same is here written over = record {
  behind = behind;
  leads = subst (λ (t : ℤ). IsNext tables t old.view next behind) same (subst (λ (w : WireStep). IsNext tables used old.view w behind) here is);
  written = written;
  over = over;
}

-- an order that it is led to takes place
pub ordered_told : {E : Type 0} (tables : List TableDef) (moment used : ℤ) (nodes : List Node) (policy : ReadPolicy) (s : SessionId) (old new : Stand) (was is : Speech) (behind : View) (found : WireStep) (order : Order) (r : Result Step E)
    → used ≡ moment → IsNext tables used was.view found behind → found ≡ wires.Order order → IfOk r (λ step. IsOrdered tables s order old step new) → OnOk r (IsWritten s.number behind is.view was.lines is.lines)
    → is.over ≡ was.over → IfOk r (λ step. Speaks tables moment nodes policy s old was step new is)
ordered_told tables moment used nodes policy s old new was is behind found order (Err fault) same leads here takes written over = tt
ordered_told tables moment used nodes policy s old new was is behind found order (Ok (steps.Did mark)) same leads here takes written over = (
  takes.0,
  subst (λ (event : SessionEvent). Says tables moment nodes s.number was event is) (sym takes.1) (asks_now tables moment used s.number was is behind found (wires.Order order) same leads here written over),
)
ordered_told tables moment used nodes policy s old new was is behind found order (Ok steps.Waits) same leads here takes written over = absurd takes
ordered_told tables moment used nodes policy s old new was is behind found order (Ok steps.Idle) same leads here takes written over = absurd takes
ordered_told tables moment used nodes policy s old new was is behind found order (Ok steps.Closed) same leads here takes written over = absurd takes
ordered_told tables moment used nodes policy s old new was is behind found order (Ok (steps.Recovers at_moment number)) same leads here takes written over = (
  takes.0,
  takes.1,
  subst (λ (o : Order). Asks tables moment s.number was (wires.Order o) is) takes.2 (asks_now tables moment used s.number was is behind found (wires.Order order) same leads here written over),
)

recovery_body : (body : OrderBody) (number : ℕ) → recovery_in body ≡ Some number → body ≡ orders.Recover number
recovery_body (orders.Recover n) number is = let same : n ≡ number = cc in ap orders.Recover same
recovery_body (orders.Statement checked) number is = let never : None ≡ Some number = is in absurd (cc)
recovery_body orders.Begin number is = let never : None ≡ Some number = is in absurd (cc)
recovery_body orders.Commit number is = let never : None ≡ Some number = is in absurd (cc)
recovery_body orders.Rollback number is = let never : None ≡ Some number = is in absurd (cc)
recovery_body orders.Settle number is = let never : None ≡ Some number = is in absurd (cc)
recovery_body orders.ShowNodes number is = let never : None ≡ Some number = is in absurd (cc)
recovery_body (orders.Refuse code name) number is = let never : None ≡ Some number = is in absurd (cc)
recovery_body orders.Leave number is = let never : None ≡ Some number = is in absurd (cc)

pub recovery_order : (order : Order) (number : ℕ) → recovery_in order.body ≡ Some number → order ≡ recovering order.moment number
recovery_order order number is = ap (λ (body : OrderBody). record { moment = order.moment; body = body }) (recovery_body order.body number is)

-- A session that is closed.

closed_by : (tables : List TableDef) (moment : ℤ) (nodes : List Node) (policy : ReadPolicy) (s : SessionId) (shared : Shared) (m : Machine) (j k l : Journal) (was is : Speech) (step : Step) → k ≡ j
    → IsStep tables policy s (at shared m k) step (at shared m l) → step ≡ steps.Closed → Closes tables moment s.number was is → Speaks tables moment nodes policy s (at shared m j) was step (at shared m l) is
closed_by tables moment nodes policy s shared m j k l was is step kept noted closed closes =
    let done = subst (λ (z : Step). IsStep tables policy s (at shared m k) z (at shared m l)) closed noted in
    subst (λ (z : Step). Speaks tables moment nodes policy s (at shared m j) was z (at shared m l) is) (sym closed)
    (record { shared = refl; machine = refl; journal = done.0.journal ∙ kept }, done.1, closes)

-- it is over
pub over_told : {E : Type 0} (tables : List TableDef) (moment : ℤ) (nodes : List Node) (policy : ReadPolicy) (s : SessionId) (shared : Shared) (m : Machine) (j l : Journal) (was : Speech) (lines : List ℕ) (r : Result Step E)
    → IfOk r (λ step. IsStep tables policy s (at shared m j) step (at shared m l)) → IfOk r (λ step. step ≡ steps.Closed) → was.over ≡ true → OnOk r (lines ≡ was.lines ++ closed_line s.number)
    → IfOk r (λ step. Speaks tables moment nodes policy s (at shared m j) was step (at shared m l) (record was { lines = lines }))
over_told tables moment nodes policy s shared m j l was lines (Ok step) noted closed over told =
    closed_by tables moment nodes policy s shared m j j l was (record was { lines = lines }) step refl noted closed (inl (over, ap (λ (z : List ℕ). record was { lines = z }) told))
over_told tables moment nodes policy s shared m j l was lines (Err fault) noted closed over told = tt

-- its wire is led to its end
pub end_told : {E : Type 0} (tables : List TableDef) (moment : ℤ) (nodes : List Node) (policy : ReadPolicy) (s : SessionId) (shared : Shared) (m : Machine) (j k l : Journal) (was mid : Speech) (refused : Bool) (lines : List ℕ) (r : Result Step E)
    → k ≡ j → IfOk r (λ step. IsStep tables policy s (at shared m k) step (at shared m l)) → IfOk r (λ step. step ≡ steps.Closed) → was.over ≡ false → Asks tables moment s.number was (wires.Close refused) mid
    → OnOk r (lines ≡ mid.lines ++ closed_line s.number) → IfOk r (λ step. Speaks tables moment nodes policy s (at shared m j) was step (at shared m l) (record mid { lines = lines }))
end_told tables moment nodes policy s shared m j k l was mid refused lines (Ok step) kept noted closed over asks told =
    closed_by tables moment nodes policy s shared m j k l was (record mid { lines = lines }) step kept noted closed (inr (over, (refused, (mid, asks, ap (λ (z : List ℕ). record mid { lines = z }) told))))
end_told tables moment nodes policy s shared m j k l was mid refused lines (Err fault) kept noted closed over asks told = tt

-- What a step said tells what it did.

said_step : (tables : List TableDef) (moment : ℤ) (nodes : List Node) (policy : ReadPolicy) (s : SessionId) (old new : Stand) (was is : Speech) (step : Step) → Speaks tables moment nodes policy s old was step new is
    → IsStep tables policy s old step new
said_step tables moment nodes policy s old new was is (steps.Did mark) said = said.0
said_step tables moment nodes policy s old new was is steps.Waits said = said.0
said_step tables moment nodes policy s old new was is steps.Idle said = said.0
said_step tables moment nodes policy s old new was is steps.Closed said = (said.0, said.1)
said_step tables moment nodes policy s old new was is (steps.Recovers at_moment number) said = (said.0, said.1)

pub said_ok : {E : Type 0} (tables : List TableDef) (moment : ℤ) (nodes : List Node) (policy : ReadPolicy) (s : SessionId) (old new : Stand) (was is : Speech) (r : Result Step E)
    → IfOk r (λ step. Speaks tables moment nodes policy s old was step new is) → IfOk r (λ step. IsStep tables policy s old step new)
said_ok tables moment nodes policy s old new was is (Ok step) said = said_step tables moment nodes policy s old new was is step said
said_ok tables moment nodes policy s old new was is (Err fault) said = tt

-- Where nothing is told.

quiet_says : (tables : List TableDef) (moment : ℤ) (nodes : List Node) (s : ℕ) (was is : Speech) (event : SessionEvent) → IsQuiet event → is ≡ was → Says tables moment nodes s was event is
quiet_says tables moment nodes s was is (events.Ordered order) quiet same = absurd quiet
quiet_says tables moment nodes s was is (events.Called call answer) quiet same = same
quiet_says tables moment nodes s was is (events.Posted b request) quiet same = same
quiet_says tables moment nodes s was is (events.Taken b answer) quiet same = same
quiet_says tables moment nodes s was is (events.Faulted b before later) quiet same = same
quiet_says tables moment nodes s was is (events.Detached b cause answer) quiet same = absurd quiet
quiet_says tables moment nodes s was is (events.Swapped b) quiet same = same
quiet_says tables moment nodes s was is (events.Replied outcome status) quiet same = absurd quiet
quiet_says tables moment nodes s was is events.Ended quiet same = absurd quiet

pub quiet_told : {E : Type 0} (tables : List TableDef) (moment : ℤ) (nodes : List Node) (policy : ReadPolicy) (s : SessionId) (old new : Stand) (was is : Speech) (r : Result Step E) → is ≡ was
    → IfOk r (λ step. IsQuietStep tables s old step new) → IfOk r (λ step. Speaks tables moment nodes policy s old was step new is)
quiet_told tables moment nodes policy s old new was is (Err fault) same quiet = tt
quiet_told tables moment nodes policy s old new was is (Ok (steps.Did mark)) same quiet = (quiet.0, quiet_says tables moment nodes s.number was is quiet.0.event quiet.1 same)
quiet_told tables moment nodes policy s old new was is (Ok steps.Waits) same quiet = (quiet, same)
quiet_told tables moment nodes policy s old new was is (Ok steps.Idle) same quiet = absurd quiet
quiet_told tables moment nodes policy s old new was is (Ok steps.Closed) same quiet = absurd quiet
quiet_told tables moment nodes policy s old new was is (Ok (steps.Recovers at_moment number)) same quiet = absurd quiet

-- An outcome that a wire hears.

-- by what its order was for
heard_by : (nodes : List Node) (outcome : Outcome) (status : ℕ) (old new : View) (d : Option Due) → ((due : Due) → d ≡ Some due → IsHeard nodes due outcome status old new) → (d ≡ None → new ≡ old)
    → IsHeardAt nodes d outcome status old new
heard_by nodes outcome status old new None heard none = none refl
heard_by nodes outcome status old new (Some due) heard none = heard due refl

pub heard_at : (nodes : List Node) (outcome : Outcome) (status : Status) (byte : ℕ) (old new : View) → byte ≡ status_byte status
    → ((due : Due) → old.due ≡ Some due → SaysOutcome nodes due outcome byte old new)
    → ((due : Due) → old.due ≡ Some due → new.session.status ≡ byte)
    → ((due : Due) → old.due ≡ Some due → new.session.implicit ≡ implicit_after old.session.implicit outcome byte)
    → ((due : Due) → old.due ≡ Some due → new.session.skipping ≡ skips due outcome old.session.skipping)
    → frame_of new ≡ frame_of old
    → ((due : Due) → old.due ≡ Some due → new.left ≡ left_after due outcome old.left)
    → ((due : Due) → old.due ≡ Some due → keeps_portals due outcome byte ≡ true → new.session.portals ≡ old.session.portals)
    → ((due : Due) → old.due ≡ Some due → ends_block outcome ≡ true → HasNone new.session.portals)
    → (old.due ≡ Some dues.Settle → byte ≡ 73 → HasNone new.session.portals)
    → new.due ≡ None → (old.due ≡ None → new ≡ old) → IsHeardAt nodes old.due outcome (status_byte status) old new
heard_at nodes outcome status byte old new same says is_status implicit skipping kept left portals ends settled gone none =
    subst (λ (n : ℕ). IsHeardAt nodes old.due outcome n old new) same
    (heard_by nodes outcome byte old new old.due
    (λ due is. record {
      says = says due is;
      is_status = is_status due is;
      implicit = implicit due is;
      skipping = skipping due is;
      kept = kept;
      left = left due is;
      portals = portals due is;
      ended = ends due is;
      settled = λ own. settled (is ∙ ap Some own);
      gone = gone;
    }) none)

-- A detachment has one cause, and its line.

pub detached_told : (tables : List TableDef) (moment : ℤ) (nodes : List Node) (s : SessionId) (old new : Stand) (was is : Speech) (b : BackendId) (cause : Cause) (answer : GateAnswer)
    → (took : TookPlace tables s old new) × (took.event ≡ events.Detached b cause answer) → is ≡ saying was (told_detached b.number cause answer)
    → (took : TookPlace tables s old new) × Says tables moment nodes s.number was took.event is
detached_told tables moment nodes s old new was is b cause answer (took, as_it) says = (took, subst (λ (event : SessionEvent). Says tables moment nodes s.number was event is) (sym as_it) says)

pub one_cause : (action : Action) (a b : Cause) → Detaches action a → Detaches action b → b ≡ a
one_cause actions.Rest a b first other = absurd first
one_cause (actions.Gate call) a b first other = absurd first
one_cause (actions.Detach c cause) a b first other = other ∙ sym first
one_cause (actions.Post c request) a b first other = absurd first
one_cause (actions.WaitFor c) a b first other = absurd first
one_cause (actions.Reply outcome status) a b first other = absurd first
one_cause actions.End a b first other = absurd first

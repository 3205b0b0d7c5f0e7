-- What the client of a session is told in a step: what its wire is led to and puts out, and the lines of that in the transcript.
use Rattle.std.specs.Prelude.{◌≡◌, ◌<◌, ◌⊎◌, ℕ, ℤ, Bool, true, false, List, [], ◌∷◌, ◌++◌, length, drop, codes}
use Rattle.std.specs.Fmt.{decimal}
use Rattle.pool_base.specs.declared.session_id.SessionId.{SessionId}
use Rattle.pool_base.specs.declared.gate_call.GateAnswer.{GateAnswer}
use Rattle.pool_base.specs.declared.gate_call.GateAnswer.TheVariants.{Granted}
use Rattle.pool_config.specs.declared.config.Node.{Node}
use Rattle.schema.specs.declared.catalogue.TableDef.{TableDef}
use Rattle.pg_messages.specs.declared.server.ServerMessage.{ServerMessage}
use Rattle.pg_messages.specs.declared.server.ServerMessage.TheVariants.{Error}
use Rattle.pg_messages.specs.Frame.{BeginsWith}
use Rattle.pg_messages.specs.Server.{IsServerForm}
use Rattle.pgproto.specs.Rendering.{rendered}
use Rattle.session_orders.specs.declared.order.Order.{Order}
use Rattle.session_orders.specs.declared.order.OrderBody.TheVariants as orders
use Rattle.session_orders.specs.declared.outcome.Outcome.{Outcome}
use Rattle.session_machine.specs.declared.action.Cause.{Cause}
use Rattle.session_machine.specs.declared.action.Cause.TheVariants.{Fault, Differs}
use Rattle.session_machine.specs.declared.action.SessionEvent.{SessionEvent}
use Rattle.session_machine.specs.declared.action.SessionEvent.TheVariants as events
use Rattle.session_machine.specs.declared.machine.ReadPolicy.{ReadPolicy}
use Rattle.session_machine.specs.Rules.{new_machine, status_byte}
use Rattle.session_wire.specs.declared.wire.WireStep.{WireStep}
use Rattle.session_wire.specs.declared.wire.WireStep.TheVariants as wires
use Rattle.session_wire.specs.Answers.{IsHeardAt}
use Rattle.session_wire.specs.Shown.{View, shown, with_written}
use Rattle.session_wire.specs.Steps.{IsNext}
use Rattle.session_seat.specs.declared.seat.Seat.{Seat}
use Rattle.session_seat.specs.declared.step.Step.{Step}
use Rattle.session_seat.specs.declared.step.Step.TheVariants as step
use Rattle.session_seat.specs.Steps.{IsOutside, Stand, Stays, TookPlace}

-- where the client of a session stands, whether its session is over, and the lines of the part that is played
pub record Speech : Type 0 where
  pub view : View
  pub over : Bool
  pub lines : List ℕ

abbrev pub speech : Seat → List ℕ → Speech
speech seat lines = record { view = shown seat.wire; over = seat.over; lines = lines }

-- Lines of the transcript, each with its end.

-- of a message to a session
abbrev pub message_line : ℕ → ServerMessage → List ℕ
message_line s message = rendered s message ++ 10 ∷ []

-- of a number and a word
abbrev pub word_line : ℕ → List ℕ → List ℕ
word_line s word = decimal s ++ (32 ∷ (word ++ 10 ∷ []))

abbrev pub closed_line : ℕ → List ℕ
closed_line s = word_line s (codes "closed")

-- of a detachment
abbrev pub detached_line : ℕ → Cause → List ℕ
detached_line b (Fault before later) =
    codes "pool detach " ++ (decimal b ++ (codes " fault " ++ (decimal before ++ (32 ∷ (decimal later ++ 10 ∷ [])))))
detached_line b (Differs kept own) = codes "pool detach " ++ (decimal b ++ (codes " differs" ++ 10 ∷ []))

-- where the gate has granted it; else there is none
abbrev pub told_detached : ℕ → Cause → GateAnswer → List ℕ
told_detached b cause (Granted view) = detached_line b cause
told_detached b cause answer = []

-- a client that finds no place is told so
abbrev pub no_place : ServerMessage
no_place = Error (
    record { tag = 83; text = codes "FATAL" } ∷ record { tag = 86; text = codes "FATAL" } ∷ record { tag = 67; text = codes "53300" }
    ∷ record { tag = 77; text = codes "too many clients" } ∷ [])

-- What is put out.

-- bytes are these messages, one behind another, and a text is their lines
abbrev pub AreShown : ℕ → List ServerMessage → List ℕ → List ℕ → Type 0
AreShown s [] bytes text = (bytes ≡ []) × (text ≡ [])
AreShown s (message ∷ more) bytes text = (n : ℕ) × (0 < n) × BeginsWith IsServerForm message n bytes
    × ((rest : List ℕ) × AreShown s more (drop n bytes) rest × (text ≡ message_line s message ++ rest))

abbrev pub IsShown : ℕ → List ℕ → List ℕ → Type 0
IsShown s bytes text = (messages : List ServerMessage) × AreShown s messages bytes text

-- what waits to be written to the client of session s is dropped from its wire, and its lines stand behind those that were there
pub record IsWritten (s : ℕ) (old new : View) (had has : List ℕ) : Type 0 where
  pub text : List ℕ
  pub shows : IsShown s old.output text
  pub wrote : new ≡ with_written old (length old.output)
  pub lines : has ≡ had ++ text

-- What is said.

-- the wire of session s is led to that next, and what it has put out is written
pub record Asks (tables : List TableDef) (moment : ℤ) (s : ℕ) (old : Speech) (next : WireStep) (new : Speech) : Type 0 where
  pub behind : View
  pub leads : IsNext tables moment old.view next behind
  pub written : IsWritten s behind new.view old.lines new.lines
  pub over : new.over ≡ old.over

-- it hears an outcome, and what it has put out is written
pub record Hears (nodes : List Node) (s : ℕ) (old : Speech) (outcome : Outcome) (status : ℕ) (new : Speech) : Type 0 where
  pub behind : View
  pub heard : IsHeardAt nodes old.view.due outcome status old.view behind
  pub written : IsWritten s behind new.view old.lines new.lines
  pub over : new.over ≡ old.over

-- these lines are told, and the client stands as it stood
abbrev pub saying : Speech → List ℕ → Speech
saying old text = record old { lines = old.lines ++ text }

abbrev pub ended : Speech → Speech
ended old = record old { over = true }

-- what is told at an event of session s: an order is the one that its wire is led to; a reply goes to its wire; the gate's grant of a
-- detachment has a line. Nothing is told at any other
abbrev pub Says : List TableDef → ℤ → List Node → ℕ → Speech → SessionEvent → Speech → Type 0
Says tables moment nodes s old (events.Ordered order) new = Asks tables moment s old (wires.Order order) new
Says tables moment nodes s old (events.Replied outcome status) new = Hears nodes s old outcome (status_byte status) new
Says tables moment nodes s old (events.Detached b cause answer) new = new ≡ saying old (told_detached b.number cause answer)
Says tables moment nodes s old events.Ended new = new ≡ ended old
Says tables moment nodes s old event new = new ≡ old

-- a session is closed: it is over, or its wire is led to its end
abbrev pub Closes : List TableDef → ℤ → ℕ → Speech → Speech → Type 0
Closes tables moment s old new =
    ((old.over ≡ true) × (new ≡ saying old (closed_line s)))
    ⊎ ((old.over ≡ false) × ((refused : Bool) × ((mid : Speech) × Asks tables moment s old (wires.Close refused) mid × (new ≡ saying mid (closed_line s)))))

abbrev pub recovering : ℤ → ℕ → Order
recovering moment number = record { moment = moment; body = orders.Recover number }

-- what a step of session s did, and what was told in it
abbrev pub Speaks : List TableDef → ℤ → List Node → ReadPolicy → SessionId → Stand → Speech → Step → Stand → Speech → Type 0
Speaks tables moment nodes policy s old was (step.Did mark) new is = (took : TookPlace tables s old new) × Says tables moment nodes s.number was took.event is
Speaks tables moment nodes policy s old was step.Waits new is = Stays old new × (is ≡ was)
Speaks tables moment nodes policy s old was step.Idle new is = Stays old new × Asks tables moment s.number was wires.NeedInput is
Speaks tables moment nodes policy s old was step.Closed new is = Stays old new × (new.machine ≡ new_machine s policy) × Closes tables moment s.number was is
Speaks tables moment nodes policy s old was (step.Recovers at number) new is =
    Stays old new × IsOutside old.machine × Asks tables moment s.number was (wires.Order (recovering at number)) is

-- an order takes place as that event; that of a recovery is handed out
abbrev pub IsOrdered : List TableDef → SessionId → Order → Stand → Step → Stand → Type 0
IsOrdered tables s order old (step.Did mark) new = (took : TookPlace tables s old new) × (took.event ≡ events.Ordered order)
IsOrdered tables s order old step.Waits new = ⊥
IsOrdered tables s order old step.Idle new = ⊥
IsOrdered tables s order old step.Closed new = ⊥
IsOrdered tables s order old (step.Recovers at number) new = Stays old new × IsOutside old.machine × (order ≡ recovering at number)

-- nothing is told at such an event of a session
abbrev pub IsQuiet : SessionEvent → Type 0
IsQuiet (events.Ordered order) = ⊥
IsQuiet (events.Called call answer) = Unit {0}
IsQuiet (events.Posted b request) = Unit {0}
IsQuiet (events.Taken b answer) = Unit {0}
IsQuiet (events.Faulted b before later) = Unit {0}
IsQuiet (events.Detached b cause answer) = ⊥
IsQuiet (events.Swapped b) = Unit {0}
IsQuiet (events.Replied outcome status) = ⊥
IsQuiet events.Ended = ⊥

-- such an event of session s took place, or none
abbrev pub IsQuietStep : List TableDef → SessionId → Stand → Step → Stand → Type 0
IsQuietStep tables s old (step.Did mark) new = (took : TookPlace tables s old new) × IsQuiet took.event
IsQuietStep tables s old step.Waits new = Stays old new
IsQuietStep tables s old step.Idle new = ⊥
IsQuietStep tables s old step.Closed new = ⊥
IsQuietStep tables s old (step.Recovers at number) new = ⊥

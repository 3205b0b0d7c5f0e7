-- What the client of a session is told in a step, whose session may have ordered a recovery.
use Rattle.std.specs.Prelude.{◌≡◌, ℕ, ℤ, List, [], ◌∷◌, ◌++◌, codes}
use Rattle.std.specs.Fmt.{decimal}
use Rattle.pool_base.specs.declared.session_id.SessionId.{SessionId}
use Rattle.pool_base.specs.declared.gate_call.GateCall.{GateCall}
use Rattle.pool_base.specs.declared.gate_call.GateCall.TheVariants as calls
use Rattle.pool_base.specs.declared.gate_call.GateAnswer.{GateAnswer}
use Rattle.pool_base.specs.declared.gate_call.GateAnswer.TheVariants.{Granted}
use Rattle.pool_config.specs.declared.config.Node.{Node}
use Rattle.schema.specs.declared.catalogue.TableDef.{TableDef}
use Rattle.session_machine.specs.declared.action.SessionEvent.{SessionEvent}
use Rattle.session_machine.specs.declared.action.SessionEvent.TheVariants as events
use Rattle.session_machine.specs.declared.machine.ReadPolicy.{ReadPolicy}
use Rattle.session_machine.specs.Rules.{new_machine}
use Rattle.session_wire.specs.declared.wire.WireStep.TheVariants as wires
use Rattle.online_recovery.specs.declared.layout.Layout.{Layout}
use Rattle.online_recovery.specs.State.{new_standing}
use Rattle.session_seat.specs.declared.step.Step.{Step}
use Rattle.session_seat.specs.declared.step.Step.TheVariants as step
use Rattle.session_seat.specs.Speech.{Asks, Closes, Says, Speech, saying}
use Rattle.recovery_seat.specs.Schedule.{Entry, Of, Recovers, Loses}
use Rattle.recovery_seat.specs.Steps.{Stand, Stays, TookPlace}

-- the line of a backend that is attached
abbrev pub attached_line : ℕ → List ℕ
attached_line b = codes "pool attach " ++ (decimal b ++ 10 ∷ [])

-- where the gate has granted it; no other call has a line
abbrev pub told_called : GateCall → GateAnswer → List ℕ
told_called (calls.Attach b) (Granted view) = attached_line b.number
told_called call answer = []

-- what is told at an event of a recovery: of an Attach its line, and all else as at an event of a session
abbrev pub RecoverySays : List TableDef → ℤ → List Node → ℕ → Speech → SessionEvent → Speech → Type 0
RecoverySays tables moment nodes s old (events.Called call answer) new = new ≡ saying old (told_called call answer)
RecoverySays tables moment nodes s old event new = Says tables moment nodes s old event new

-- what is told at what takes place of session s or of its recovery
abbrev pub SaysAt : List TableDef → ℤ → List Node → SessionId → Speech → Entry → Speech → Type 0
SaysAt tables moment nodes s old (Of t event) new = (t ≡ s) × Says tables moment nodes s.number old event new
SaysAt tables moment nodes s old (Recovers t event) new = (t ≡ s) × RecoverySays tables moment nodes s.number old event new
SaysAt tables moment nodes s old (Loses b) new = ⊥

-- what a step of a recovery that is under way did, and what was told in it
abbrev pub SpeaksOn : List TableDef → ℤ → List Node → SessionId → ℕ → Stand → Speech → Step → Stand → Speech → Type 0
SpeaksOn tables moment nodes s others old was (step.Did mark) new is = (took : TookPlace tables s others old new) × SaysAt tables moment nodes s was took.entry is
SpeaksOn tables moment nodes s others old was step.Waits new is = Stays old new × (is ≡ was)
SpeaksOn tables moment nodes s others old was step.Idle new is = ⊥
SpeaksOn tables moment nodes s others old was step.Closed new is = ⊥
SpeaksOn tables moment nodes s others old was (step.Recovers at number) new is = ⊥

-- what a step of session s did, and what was told in it
abbrev pub Speaks : List TableDef → ℤ → List Node → ReadPolicy → Layout → SessionId → ℕ → Stand → Speech → Step → Stand → Speech → Type 0
Speaks tables moment nodes policy layout s others old was (step.Did mark) new is =
    (took : TookPlace tables s others old new) × SaysAt tables moment nodes s was took.entry is
Speaks tables moment nodes policy layout s others old was step.Waits new is = Stays old new × (is ≡ was)
Speaks tables moment nodes policy layout s others old was step.Idle new is = Stays old new × Asks tables moment s.number was wires.NeedInput is
Speaks tables moment nodes policy layout s others old was step.Closed new is =
    Stays old new × (new.machine ≡ new_machine s policy) × (new.standing ≡ new_standing s layout) × Closes tables moment s.number was is
Speaks tables moment nodes policy layout s others old was (step.Recovers at number) new is = ⊥

-- that event of a recovery took place
abbrev pub DidAs : List TableDef → SessionId → ℕ → SessionEvent → Stand → Step → Stand → Type 0
DidAs tables s others event old (step.Did mark) new = (took : TookPlace tables s others old new) × (took.entry ≡ Recovers s event)
DidAs tables s others event old step.Waits new = ⊥
DidAs tables s others event old step.Idle new = ⊥
DidAs tables s others event old step.Closed new = ⊥
DidAs tables s others event old (step.Recovers at number) new = ⊥

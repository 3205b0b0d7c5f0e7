-- What takes place in a play: the gate, the stores and the machines of the sessions go from one event to the next, each where it may come.
use Rattle.std.specs.Prelude.{◌≡◌, ◌==◌, List, [], ◌∷◌, if◌then◌else◌}
use Rattle.pool_base.specs.declared.session_id.SessionId.{SessionId}
use Rattle.pool_base.specs.declared.gate_call.GateCall.TheVariants as calls
use Rattle.schema.specs.declared.catalogue.TableDef.{TableDef}
use Rattle.snapshot_gate.specs.declared.state.GateState.{GateState}
use Rattle.snapshot_gate.specs.Function.{step, MayCall}
use Rattle.session_machine.specs.declared.action.SessionEvent.{SessionEvent}
use Rattle.session_machine.specs.declared.action.SessionEvent.TheVariants as events
use Rattle.session_machine.specs.declared.machine.Machine.{Machine}
use Rattle.session_machine.specs.declared.machine.ReadPolicy.{ReadPolicy}
use Rattle.session_machine.specs.Allowed.{MayHappen}
use Rattle.session_machine.specs.Rules.{after, new_machine}
use Rattle.session_engine.specs.Tidying.{tidied}
use Rattle.session_seat.specs.Told.{Entry, Of, Loses}
use Rattle.session_seat.specs.Shared.{Shared, Serves, IsLoss}

-- the gate gives its own answer to a call and to a detachment; no other event moves it
abbrev pub IsAnswered : GateState → SessionEvent → GateState → Type 0
IsAnswered old (events.Called call answer) new = MayCall old call × ((new, answer) ≡ step old call)
IsAnswered old (events.Detached b cause answer) new = (new, answer) ≡ step old (calls.Detach b)
IsAnswered old event new = new ≡ old

-- where an event leads; behind a reply the answers are dropped, which nothing reads any more
abbrev pub led : Machine → SessionEvent → Machine
led m (events.Replied outcome status) = tidied (after m (events.Replied outcome status))
led m event = after m event

-- the event of session s may come where its machine stands, the gate answers it, the stores serve it, and the machine goes on
pub record Moves (tables : List TableDef) (s : SessionId) (old : Shared) (machine : Machine) (event : SessionEvent) (new : Shared) (next_machine : Machine) : Type 0 where
  pub may : MayHappen machine event
  pub answered : IsAnswered old.gate event new.gate
  pub serves : Serves tables old.stores s.number event new.stores
  pub leads : next_machine ≡ led machine event

-- what is shared, and the machines of all sessions
pub record State : Type 0 where
  pub shared : Shared
  pub machines : SessionId → Machine

abbrev pub state : Shared → (SessionId → Machine) → State
state shared machines = record { shared = shared; machines = machines }

-- before a play no client is connected
abbrev pub first_state : ReadPolicy → Shared → State
first_state policy shared = state shared (λ s. new_machine s policy)

-- session s has this machine, and every other its own
abbrev pub with_machine : (SessionId → Machine) → SessionId → Machine → SessionId → Machine
with_machine machines s machine t = if t.number == s.number then machine else machines t

-- an event of session s moves what is shared and the machine of s, and no other; the loss of a backend moves its store alone
abbrev pub Comes : List TableDef → State → Entry → State → Type 0
Comes tables old (Of s event) new =
    Moves tables s old.shared (old.machines s) event new.shared (new.machines s) × (new.machines ≡ with_machine old.machines s (new.machines s))
Comes tables old (Loses b) new = IsLoss old.shared b new.shared × (new.machines ≡ old.machines)

-- all of it comes one after another, each where it may
abbrev pub IsSchedule : List TableDef → State → List Entry → State → Type 0
IsSchedule tables old [] new = new ≡ old
IsSchedule tables old (entry ∷ entries) new = (mid : State) × Comes tables old entry mid × IsSchedule tables mid entries new

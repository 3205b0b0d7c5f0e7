-- The causes of a session's detachments, by its machine alone: the events that it may take, whatever the backends answer.
use Rattle.std.specs.Prelude.{◌≡◌, ◌≢◌, true, List, [], ◌∷◌, Some}
use Rattle.pool_base.specs.Sets.{has}
use Rattle.pool_base.specs.declared.backend_id.BackendId.{BackendId}
use Rattle.pool_base.specs.declared.session_id.SessionId.{SessionId}
use Rattle.pool_base.specs.declared.gate_call.View.{View}
use Rattle.pool_base.specs.declared.gate_call.GateAnswer.{GateAnswer}
use Rattle.pool_base.specs.declared.gate_call.GateAnswer.TheVariants.{Seen, Granted, Held, Spent}
use Rattle.session_machine.specs.declared.action.Cause.{Cause}
use Rattle.session_machine.specs.declared.action.SessionEvent.{SessionEvent}
use Rattle.session_machine.specs.declared.action.SessionEvent.TheVariants as events
use Rattle.session_machine.specs.declared.machine.Stage.{Stage}
use Rattle.session_machine.specs.declared.machine.Machine.{Machine}
use Rattle.session_machine.specs.declared.machine.ReadPolicy.{ReadPolicy}
use Rattle.session_machine.specs.Allowed.{MayHappen}
use Rattle.session_machine.specs.Rules.{new_machine, after}
use Rattle.one_copy_model.specs.Deaths.{stage_at}
use Rattle.one_copy_model.specs.Statement.{HasCause}

-- behind the first answer of a chain the gate shows no backend that the session did not see before
abbrev pub ShowsNobodyNew : Machine → View → Type 0
ShowsNobodyNew m view =
    (stage : Stage) → stage_at m.point ≡ Some stage → m.session.heard ≢ [] → (b : BackendId)
    → has view.attached.bits b.number ≡ true → has m.session.view.attached.bits b.number ≡ true

abbrev pub TellsNobodyNew : Machine → GateAnswer → Type 0
TellsNobodyNew m (Seen view) = ShowsNobodyNew m view
TellsNobodyNew m (Granted view) = ShowsNobodyNew m view
TellsNobodyNew m (Held count) = Unit {0}
TellsNobodyNew m Spent = Unit {0}

abbrev pub LetsNobodyIn : Machine → SessionEvent → Type 0
LetsNobodyIn m (events.Called call answer) = TellsNobodyNew m answer
LetsNobodyIn m (events.Detached b cause answer) = TellsNobodyNew m answer
LetsNobodyIn m event = Unit {0}

-- the events that a machine may take one after another, and where they lead
abbrev pub MayTake : Machine → List SessionEvent → Type 0
MayTake m [] = Unit {0}
MayTake m (e ∷ es) = MayHappen m e × LetsNobodyIn m e × MayTake (after m e) es

abbrev pub behind_all : Machine → List SessionEvent → Machine
behind_all m [] = m
behind_all m (e ∷ es) = behind_all (after m e) es

-- a detachment that may come next has its cause
abbrev pub DetachesWithCause : Machine → Type 0
DetachesWithCause m =
    (b : BackendId) (cause : Cause) (answer : GateAnswer) → MayHappen m (events.Detached b cause answer) → HasCause m b cause

abbrev pub AlwaysWithCause : SessionId → ReadPolicy → List SessionEvent → Type 0
AlwaysWithCause id policy es =
    MayTake (new_machine id policy) es → DetachesWithCause (behind_all (new_machine id policy) es)

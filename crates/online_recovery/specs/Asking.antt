-- What is due of a recovery, by its kind and its small parts; and the event that a call tells of.
use Rattle.std.specs.Prelude.{◌≡◌, Bool, true, false, ⊤}
use Rattle.pool_base.specs.declared.gate_call.GateCall.TheVariants as calls
use Rattle.pool_base.specs.declared.gate_call.GateAnswer.{GateAnswer}
use Rattle.backend_trait.specs.declared.request.Request.{Request}
use Rattle.session_machine.specs.declared.action.Cause.{Cause}
use Rattle.session_machine.specs.declared.action.SessionEvent.{SessionEvent}
use Rattle.session_machine.specs.declared.action.SessionEvent.TheVariants as events
use Rattle.online_recovery.specs.declared.action.RecoveryAction.{RecoveryAction}
use Rattle.online_recovery.specs.declared.action.RecoveryAction.TheVariants as actions
use Rattle.online_recovery.specs.declared.ask.RecoveryAsk.{RecoveryAsk}
use Rattle.online_recovery.specs.declared.ask.RecoveryAsk.TheVariants as asks
use Rattle.online_recovery.specs.declared.recovery.Recovery.{Recovery}
use Rattle.online_recovery.specs.declared.standing.Standing.{Standing}
use Rattle.online_recovery.specs.declared.standing.Task.{Task}
use Rattle.online_recovery.specs.declared.standing.Task.TheVariants.{OpeningSource, OpeningTarget, Reading, Emptying, Filling, Committing, Leaving, OpeningNumbers, ReadingSerial, LockingSerial, SettingSerial, ClosingNumbers}
use Rattle.online_recovery.specs.declared.standing.Held.{Held}
use Rattle.online_recovery.specs.declared.standing.Due.{Due}
use Rattle.online_recovery.specs.declared.standing.Due.TheVariants.{Resting, LookDue, StartDue, SwapDue, EnterDue, PostDue, Waiting, ShowDue, LeaveSnapshotDue, FinishDue, AskDue, QuietDue, AttachDue, LostDue, Closing, Undoing}
use Rattle.online_recovery.specs.Rules.{detached, called}

-- where a recovery stands
abbrev pub standing_in : Recovery → Standing
standing_in r = r.standing

-- what is due, without its large parts
abbrev pub asked_of : RecoveryAction → RecoveryAsk
asked_of actions.Rest = asks.Rest
asked_of (actions.Gate call) = asks.Gate call
asked_of (actions.Swap b) = asks.Swap b
asked_of (actions.Detach b cause) = asks.Detach b
asked_of (actions.Post b request) = asks.Post b
asked_of (actions.WaitFor b) = asks.WaitFor b
asked_of (actions.Reply outcome status) = asks.Reply
asked_of actions.End = asks.End

-- the gate's answer, as the event of what was due
abbrev pub gate_event : RecoveryAction → GateAnswer → SessionEvent
gate_event (actions.Detach b cause) answer = events.Detached b cause answer
gate_event (actions.Gate call) answer = events.Called call answer
-- nothing is asked of the gate: no such event may happen
gate_event actions.Rest answer = events.Called calls.Look answer
gate_event (actions.Swap b) answer = events.Called calls.Look answer
gate_event (actions.Post b request) answer = events.Called calls.Look answer
gate_event (actions.WaitFor b) answer = events.Called calls.Look answer
gate_event (actions.Reply outcome status) answer = events.Called calls.Look answer
gate_event actions.End answer = events.Called calls.Look answer

-- the kinds of what is due

abbrev pub IsPost : RecoveryAction → Type 0
IsPost (actions.Post b request) = ⊤
IsPost action = ⊥

abbrev pub IsDetach : RecoveryAction → Type 0
IsDetach (actions.Detach b cause) = ⊤
IsDetach action = ⊥

abbrev pub IsSwap : RecoveryAction → Type 0
IsSwap (actions.Swap b) = ⊤
IsSwap action = ⊥

abbrev pub IsReply : RecoveryAction → Type 0
IsReply (actions.Reply outcome status) = ⊤
IsReply action = ⊥

-- what is due is the post of that request, and: the detachment of a backend for that cause
abbrev pub Posts : RecoveryAction → Request → Type 0
Posts (actions.Post b asked) request = request ≡ asked
Posts action request = ⊥

abbrev pub Detaches : RecoveryAction → Cause → Type 0
Detaches (actions.Detach b asked) cause = cause ≡ asked
Detaches action cause = ⊥

-- the making of a request that has the columns of a table or the values of a row wants memory, and nothing else does
abbrev pub is_copy : Task → Bool
is_copy OpeningSource = false
is_copy OpeningTarget = false
is_copy (Reading table) = true
is_copy (Emptying table rows) = false
is_copy (Filling table rows left) = true
is_copy Committing = false
is_copy Leaving = false
is_copy OpeningNumbers = false
is_copy (ReadingSerial table) = false
is_copy (LockingSerial table n) = false
is_copy (SettingSerial table n) = false
is_copy ClosingNumbers = false

abbrev pub IsCopyDue : Due → Type 0
IsCopyDue (PostDue task) = is_copy task ≡ true
IsCopyDue at = ⊥

-- where the gate's answer leads: that to a detachment, and that to a call
abbrev pub gate_led : Held → Due → GateAnswer → Standing
gate_led held (LostDue ending before later) answer = detached held (LostDue ending before later) answer
gate_led held at answer = called held at answer

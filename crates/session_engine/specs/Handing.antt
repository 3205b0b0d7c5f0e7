-- What is due of a session, by its kind and its parts; and where a reply or an end that is handed out leaves it.
use Rattle.std.specs.Prelude.{◌≡◌, [], ⊤}
use Rattle.pool_base.specs.declared.gate_call.GateCall.TheVariants as calls
use Rattle.pool_base.specs.declared.gate_call.GateAnswer.{GateAnswer}
use Rattle.backend_trait.specs.declared.request.Request.{Request}
use Rattle.session_machine.specs.declared.action.Cause.{Cause}
use Rattle.session_machine.specs.declared.action.Action.{Action}
use Rattle.session_machine.specs.declared.action.Action.TheVariants as actions
use Rattle.session_machine.specs.declared.action.SessionEvent.{SessionEvent}
use Rattle.session_machine.specs.declared.action.SessionEvent.TheVariants as events
use Rattle.session_machine.specs.declared.machine.Point.{Point}
use Rattle.session_machine.specs.declared.machine.Point.TheVariants.{Resting, EnterDue, LookDue, PostDue, Waiting, LostDue, SplitDue, ChooseDue, ShowDue, LeaveSnapshotDue, UnwindDue, EnterCommitDue, LeaveCommitDue, FinishDue, ReplyDue, EndDue}
use Rattle.session_machine.specs.declared.machine.Session.{Session}
use Rattle.session_machine.specs.declared.machine.Machine.{Machine}
use Rattle.session_machine.specs.Rules.{due, new_machine}
use Rattle.session_engine.specs.declared.ask.Ask.{Ask}
use Rattle.session_engine.specs.declared.ask.Ask.TheVariants as asks

-- A reply that is handed out is given: the session is at rest, and drops the answers of the chain behind it. An end that is
-- handed out has taken place: its number has a new machine.

abbrev pub handed_at : Session → Point → Machine
handed_at session (ReplyDue outcome) = due (record session { heard = [] }) Resting
handed_at session EndDue = new_machine session.id session.policy
handed_at session Resting = due session Resting
handed_at session (EnterDue work) = due session (EnterDue work)
handed_at session (LookDue stage) = due session (LookDue stage)
handed_at session (PostDue stage b) = due session (PostDue stage b)
handed_at session (Waiting stage b) = due session (Waiting stage b)
handed_at session (LostDue stage b before after) = due session (LostDue stage b before after)
handed_at session (SplitDue stage best own among more) = due session (SplitDue stage best own among more)
handed_at session (ChooseDue work) = due session (ChooseDue work)
handed_at session ShowDue = due session ShowDue
handed_at session (LeaveSnapshotDue work) = due session (LeaveSnapshotDue work)
handed_at session (UnwindDue ending) = due session (UnwindDue ending)
handed_at session EnterCommitDue = due session EnterCommitDue
handed_at session (LeaveCommitDue ending) = due session (LeaveCommitDue ending)
handed_at session (FinishDue ending) = due session (FinishDue ending)

abbrev pub handed : Machine → Machine
handed m = handed_at m.session m.point

-- the gate's answer, as the event of what was due
abbrev pub gate_event : Action → GateAnswer → SessionEvent
gate_event (actions.Detach b cause) answer = events.Detached b cause answer
gate_event (actions.Gate call) answer = events.Called call answer
-- nothing is asked of the gate: no such event may happen
gate_event actions.Rest answer = events.Called calls.Look answer
gate_event (actions.Post b request) answer = events.Called calls.Look answer
gate_event (actions.WaitFor b) answer = events.Called calls.Look answer
gate_event (actions.Reply outcome status) answer = events.Called calls.Look answer
gate_event actions.End answer = events.Called calls.Look answer

-- what is due, without its large parts
abbrev pub asked_of : Action → Ask
asked_of actions.Rest = asks.Rest
asked_of (actions.Gate call) = asks.Gate call
asked_of (actions.Detach b cause) = asks.Detach b
asked_of (actions.Post b request) = asks.Post b
asked_of (actions.WaitFor b) = asks.WaitFor b
asked_of (actions.Reply outcome status) = asks.Reply
asked_of actions.End = asks.End

abbrev pub IsPost : Action → Type 0
IsPost (actions.Post b request) = ⊤
IsPost action = ⊥

abbrev pub IsDetach : Action → Type 0
IsDetach (actions.Detach b cause) = ⊤
IsDetach action = ⊥

abbrev pub IsReply : Action → Type 0
IsReply (actions.Reply outcome status) = ⊤
IsReply action = ⊥

-- what is due is the post of that request, and: the detachment of a backend for that cause
abbrev pub Posts : Action → Request → Type 0
Posts (actions.Post b asked) request = request ≡ asked
Posts action request = ⊥

abbrev pub Detaches : Action → Cause → Type 0
Detaches (actions.Detach b asked) cause = cause ≡ asked
Detaches action cause = ⊥

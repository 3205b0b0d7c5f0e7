-- Which events may happen at a session.
use Rattle.std.specs.Prelude.{◌≡◌, Bool, true, false, ⊤}
use Rattle.pool_base.specs.Outside.{Rose}
use Rattle.pool_base.specs.declared.gate_call.GateCall.{GateCall}
use Rattle.pool_base.specs.declared.gate_call.GateCall.TheVariants as calls
use Rattle.pool_base.specs.declared.gate_call.GateAnswer.{GateAnswer}
use Rattle.pool_base.specs.declared.gate_call.GateAnswer.TheVariants.{Seen, Granted, Held, Spent}
use Rattle.classifier.specs.Classes.{WritesOneOf64}
use Rattle.backend_trait.specs.declared.answer.Answer.{Answer}
use Rattle.backend_trait.specs.Acts.{IsOf}
use Rattle.session_orders.specs.declared.order.OrderBody.{OrderBody}
use Rattle.session_orders.specs.declared.order.OrderBody.TheVariants as orders
use Rattle.session_machine.specs.declared.status.Status.{Status}
use Rattle.session_machine.specs.declared.status.Status.TheVariants.{Idle, InBlock, Failed}
use Rattle.session_machine.specs.declared.action.Action.TheVariants as actions
use Rattle.session_machine.specs.declared.action.SessionEvent.{SessionEvent}
use Rattle.session_machine.specs.declared.action.SessionEvent.TheVariants as events
use Rattle.session_machine.specs.declared.machine.GatePhase.{GatePhase}
use Rattle.session_machine.specs.declared.machine.GatePhase.TheVariants.{Out, InSnapshot, Live, InCommit}
use Rattle.session_machine.specs.declared.machine.Stage.{Stage}
use Rattle.session_machine.specs.declared.machine.Stage.TheVariants.{Opening, Reading, Running, Locking, Inserting, Committing, Closing, RollingBack}
use Rattle.session_machine.specs.declared.machine.Point.{Point}
use Rattle.session_machine.specs.declared.machine.Point.TheVariants.{Resting, EnterDue, LookDue, PostDue, Waiting, LostDue, SplitDue, ChooseDue, ShowDue, LeaveSnapshotDue, UnwindDue, EnterCommitDue, LeaveCommitDue, FinishDue, ReplyDue, EndDue}
use Rattle.session_machine.specs.declared.machine.Session.{Session}
use Rattle.session_machine.specs.declared.machine.Machine.{Machine}
use Rattle.session_machine.specs.Rules.{next_action, request_of}

-- Orders come at rest, but for a Leave.

abbrev pub is_resting : Point → Bool
is_resting Resting = true
is_resting (EnterDue work) = false
is_resting (LookDue stage) = false
is_resting (PostDue stage b) = false
is_resting (Waiting stage b) = false
is_resting (LostDue stage b before after) = false
is_resting (SplitDue stage best own among more) = false
is_resting (ChooseDue work) = false
is_resting ShowDue = false
is_resting (LeaveSnapshotDue work) = false
is_resting (UnwindDue ending) = false
is_resting EnterCommitDue = false
is_resting (LeaveCommitDue ending) = false
is_resting (FinishDue ending) = false
is_resting (ReplyDue outcome) = false
is_resting EndDue = false

abbrev pub is_out : GatePhase → Bool
is_out Out = true
is_out InSnapshot = false
is_out (Live changed tables) = false
is_out InCommit = false

-- a failed block takes its end alone; an implicit transaction that is live takes no BEGIN, COMMIT and ROLLBACK;
-- a recovery takes Recover
abbrev pub fits : Status → GatePhase → OrderBody → Bool
fits Idle phase (orders.Statement checked) = true
fits Idle phase orders.Begin = is_out phase
fits Idle phase orders.Commit = is_out phase
fits Idle phase orders.Rollback = is_out phase
fits Idle phase orders.Settle = true
fits Idle phase orders.ShowNodes = true
fits Idle phase (orders.Recover b) = false
fits Idle phase (orders.Refuse code name) = true
fits Idle phase orders.Leave = true
fits InBlock phase (orders.Statement checked) = true
fits InBlock phase orders.Begin = true
fits InBlock phase orders.Commit = true
fits InBlock phase orders.Rollback = true
fits InBlock phase orders.Settle = true
fits InBlock phase orders.ShowNodes = true
fits InBlock phase (orders.Recover b) = false
fits InBlock phase (orders.Refuse code name) = true
fits InBlock phase orders.Leave = true
fits Failed phase (orders.Statement checked) = false
fits Failed phase orders.Begin = false
fits Failed phase orders.Commit = true
fits Failed phase orders.Rollback = true
fits Failed phase orders.Settle = true
fits Failed phase orders.ShowNodes = false
fits Failed phase (orders.Recover b) = false
fits Failed phase (orders.Refuse code name) = true
fits Failed phase orders.Leave = true

-- an entered commit and a serial insert that has been posted are completed first
abbrev pub may_stop : Stage → Bool
may_stop (Opening work) = true
may_stop (Reading work ticket) = true
may_stop (Running work) = true
may_stop (Locking work table) = true
may_stop (Inserting work false) = true
may_stop (Inserting work true) = false
may_stop Committing = false
may_stop Closing = true
may_stop (RollingBack ending) = true

-- a Leave may come wherever no request is pending and nothing has to be completed. Where the session has seen that a backend is lost
-- none is pending there any more
abbrev pub may_leave : Point → Bool
may_leave Resting = true
may_leave (EnterDue work) = true
may_leave (LookDue stage) = may_stop stage
may_leave (PostDue stage b) = may_stop stage
may_leave (Waiting stage b) = false
may_leave (LostDue stage b before after) = may_stop stage
may_leave (SplitDue stage best own among more) = may_stop stage
may_leave (ChooseDue work) = true
may_leave ShowDue = true
may_leave (LeaveSnapshotDue work) = true
may_leave (UnwindDue ending) = true
may_leave EnterCommitDue = true
may_leave (LeaveCommitDue ending) = false
may_leave (FinishDue ending) = true
may_leave (ReplyDue outcome) = true
may_leave EndDue = true

abbrev pub fits_at_rest : Bool → Status → GatePhase → OrderBody → Bool
fits_at_rest false status phase body = false
fits_at_rest true status phase body = fits status phase body

abbrev pub may_order : Session → Point → OrderBody → Bool
may_order session point orders.Leave = may_leave point
may_order session point (orders.Statement checked) =
    fits_at_rest (is_resting point) session.status session.gate (orders.Statement checked)
may_order session point orders.Begin = fits_at_rest (is_resting point) session.status session.gate orders.Begin
may_order session point orders.Commit = fits_at_rest (is_resting point) session.status session.gate orders.Commit
may_order session point orders.Rollback = fits_at_rest (is_resting point) session.status session.gate orders.Rollback
may_order session point orders.Settle = fits_at_rest (is_resting point) session.status session.gate orders.Settle
may_order session point orders.ShowNodes = fits_at_rest (is_resting point) session.status session.gate orders.ShowNodes
may_order session point (orders.Recover b) = false
may_order session point (orders.Refuse code name) = fits_at_rest (is_resting point) session.status session.gate (orders.Refuse code name)

-- the table that a statement writes is one of the 64 that a catalogue may have
abbrev pub HasItsBit : OrderBody → Type 0
HasItsBit (orders.Statement checked) = WritesOneOf64 checked.body
HasItsBit orders.Begin = ⊤
HasItsBit orders.Commit = ⊤
HasItsBit orders.Rollback = ⊤
HasItsBit orders.Settle = ⊤
HasItsBit orders.ShowNodes = ⊤
HasItsBit (orders.Recover b) = ⊤
HasItsBit (orders.Refuse code name) = ⊤
HasItsBit orders.Leave = ⊤

-- a session takes an order there
abbrev pub TakesOrder : Machine → OrderBody → Type 0
TakesOrder m body = (may_order m.session m.point body ≡ true) × HasItsBit body

-- The gate's answers: a Look is seen, a snapshot is granted or spent, the other calls of a session are granted. A call that is
-- held is tried again, and a detachment is an event of its own.

abbrev pub is_seen : GateAnswer → Bool
is_seen (Seen view) = true
is_seen (Granted view) = false
is_seen (Held count) = false
is_seen Spent = false

abbrev pub is_granted : GateAnswer → Bool
is_granted (Seen view) = false
is_granted (Granted view) = true
is_granted (Held count) = false
is_granted Spent = false

abbrev pub is_granted_or_spent : GateAnswer → Bool
is_granted_or_spent (Seen view) = false
is_granted_or_spent (Granted view) = true
is_granted_or_spent (Held count) = false
is_granted_or_spent Spent = true

abbrev pub is_seen_or_granted : GateAnswer → Bool
is_seen_or_granted (Seen view) = true
is_seen_or_granted (Granted view) = true
is_seen_or_granted (Held count) = false
is_seen_or_granted Spent = false

abbrev pub answers_call : GateCall → GateAnswer → Bool
answers_call calls.Look answer = is_seen answer
answers_call calls.EnterSnapshot answer = is_granted_or_spent answer
answers_call calls.LeaveSnapshot answer = is_granted answer
answers_call (calls.EnterCommit tables) answer = is_granted answer
answers_call calls.LeaveCommit answer = is_granted answer
answers_call calls.Finish answer = is_granted answer
answers_call (calls.Detach b) answer = false
answers_call calls.StartCopy answer = false
answers_call calls.AskQuiet answer = false
answers_call calls.EnterQuiet answer = false
answers_call (calls.Attach b) answer = false
answers_call calls.LeaveQuiet answer = false

-- an answer has the form of the request that waits for it
abbrev pub HasForm : Point → Answer → Type 0
HasForm (Waiting stage b) answer = IsOf (request_of stage) answer
HasForm point answer = ⊥

-- an event may happen where it is what is due, or is an order that the session takes there
abbrev pub MayHappen : Machine → SessionEvent → Type 0
MayHappen m (events.Ordered order) = TakesOrder m order.body
MayHappen m (events.Called call answer) = (next_action m ≡ actions.Gate call) × (answers_call call answer ≡ true)
MayHappen m (events.Posted b request) = next_action m ≡ actions.Post b request
MayHappen m (events.Taken b answer) = (next_action m ≡ actions.WaitFor b) × HasForm m.point answer
MayHappen m (events.Faulted b before after) = (next_action m ≡ actions.WaitFor b) × Rose before after
MayHappen m (events.Detached b cause answer) = (next_action m ≡ actions.Detach b cause) × (is_seen_or_granted answer ≡ true)
MayHappen m (events.Swapped b) = ⊥
MayHappen m (events.Replied outcome status) = next_action m ≡ actions.Reply outcome status
MayHappen m events.Ended = next_action m ≡ actions.End

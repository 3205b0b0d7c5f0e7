-- Linearization points: at which event each order has its acts in the single run.
use Rattle.std.specs.Prelude.{◌+◌, ℤ, Bool, true, false, List, [], ◌∷◌, Option, Some, None}
use Rattle.pool_base.specs.declared.code.Code.{Code}
use Rattle.pool_base.specs.declared.backend_id.BackendId.{BackendId}
use Rattle.pool_base.specs.declared.gate_call.GateAnswer.{GateAnswer}
use Rattle.pool_base.specs.declared.gate_call.GateAnswer.TheVariants.{Seen, Granted, Held, Spent}
use Rattle.catalogue.specs.declared.checked.Checked.{Checked}
use Rattle.backend_trait.specs.declared.request.Request.{Request}
use Rattle.backend_trait.specs.declared.request.Request.TheVariants as requests
use Rattle.backend_trait.specs.declared.answer.Answer.{Answer}
use Rattle.backend_trait.specs.declared.answer.Answer.TheVariants as answers
use Rattle.session_machine.specs.declared.work.Class.{Class}
use Rattle.session_machine.specs.declared.work.Class.TheVariants as classes
use Rattle.session_machine.specs.declared.work.Work.{Work}
use Rattle.session_orders.specs.declared.order.OrderBody.{OrderBody}
use Rattle.session_orders.specs.declared.order.OrderBody.TheVariants as orders
use Rattle.session_machine.specs.declared.status.Status.{Status}
use Rattle.session_machine.specs.declared.status.Status.TheVariants.{Idle, InBlock, Failed}
use Rattle.session_machine.specs.declared.action.SessionEvent.{SessionEvent}
use Rattle.session_machine.specs.declared.action.SessionEvent.TheVariants as events
use Rattle.session_machine.specs.declared.machine.GatePhase.{GatePhase}
use Rattle.session_machine.specs.declared.machine.GatePhase.TheVariants.{Out, InSnapshot, Live, InCommit}
use Rattle.session_machine.specs.declared.machine.Heard.{Heard}
use Rattle.session_machine.specs.declared.machine.Stage.{Stage}
use Rattle.session_machine.specs.declared.machine.Stage.TheVariants.{Opening, Reading, Running, Locking, Inserting, Committing, Closing, RollingBack}
use Rattle.session_machine.specs.declared.machine.Point.{Point}
use Rattle.session_machine.specs.declared.machine.Point.TheVariants.{Resting, EnterDue, LookDue, PostDue, Waiting, LostDue, SplitDue, ChooseDue, ShowDue, LeaveSnapshotDue, UnwindDue, EnterCommitDue, LeaveCommitDue, FinishDue, ReplyDue, EndDue}
use Rattle.session_machine.specs.declared.machine.Session.{Session}
use Rattle.session_machine.specs.Answers.{next_of, kept, first_other, goes_on, counts}
use Rattle.session_machine.specs.Classes.{work_in}
use Rattle.session_machine.specs.Rules.{primary, kind_of, with_view, moment_at, rewritten}
use Rattle.one_copy_model.specs.declared.deed.Deed.{Deed}
use Rattle.one_copy_model.specs.declared.deed.Deed.TheVariants.{Asks, Gets, Falls}

-- The closing Look: the first behind which a chain needs no further answer, with the answer that decides.

abbrev pub one_kept : Bool → Option Heard → Answer → Option Answer
one_kept true other answer = None
one_kept false (Some other) answer = None
one_kept false None answer = Some answer

abbrev pub kept_of : Session → Option Heard → Option Answer
kept_of session None = None
kept_of session (Some best) =
    one_kept (goes_on session.view.attached.bits session.heard best.answer)
    (first_other session.view.attached.bits best.answer 0 session.heard) best.answer

abbrev pub closing_chain : Session → Option BackendId → Option Answer
closing_chain session (Some b) = None
closing_chain session None = kept_of session (kept session.view.attached.bits session.heard)

abbrev pub read_answer : Bool → Answer → Option Answer
read_answer true answer = Some answer
read_answer false answer = None

abbrev pub closing_read : Session → List Heard → Option Answer
closing_read session [] = None
closing_read session (h ∷ hs) = read_answer (counts session.view.attached.bits h) h.answer

abbrev pub closing_at : Session → Stage → Option Answer
closing_at session (Opening work) = closing_chain session (next_of (kind_of (Opening work)) session.view.attached.bits session.heard)
closing_at session (Reading work ticket) = closing_read session session.heard
closing_at session (Running work) = closing_chain session (next_of (kind_of (Running work)) session.view.attached.bits session.heard)
closing_at session (Locking work table) = closing_chain session (next_of (kind_of (Locking work table)) session.view.attached.bits session.heard)
closing_at session (Inserting work under) = closing_chain session (next_of (kind_of (Inserting work under)) session.view.attached.bits session.heard)
closing_at session Committing = closing_chain session (next_of (kind_of Committing) session.view.attached.bits session.heard)
closing_at session Closing = closing_chain session (next_of (kind_of Closing) session.view.attached.bits session.heard)
closing_at session (RollingBack ending) = closing_chain session (next_of (kind_of (RollingBack ending)) session.view.attached.bits session.heard)

-- with no backend attached nothing is decided
abbrev pub closing_look : Session → Stage → Option BackendId → Option Answer
closing_look session stage None = None
closing_look session stage (Some b) = closing_at session stage

-- where the last backend that differs has been detached, the detachment decides
abbrev pub closing_split : Session → Heard → Option Heard → Bool → Option BackendId → Option Answer
closing_split session best other more None = None
closing_split session best (Some other) more (Some b) = None
closing_split session best None true (Some b) = None
closing_split session best None false (Some b) = Some best.answer

-- What an order's acts are.

-- the request of a statement: a serial insert waits for its table's lock first
abbrev pub asks_as : Checked → Class → Request
asks_as statement classes.Read = requests.Run statement
asks_as statement classes.LockingRead = requests.Run statement
asks_as statement (classes.Write verb) = requests.Run statement
asks_as statement (classes.SerialInsert table) = requests.Lock table

abbrev pub asks_of : Work → Request
asks_of work = asks_as work.statement work.class

abbrev pub commits : List Deed
commits = Asks requests.Commit ∷ Gets answers.Done ∷ []

abbrev pub rolls_back : List Deed
rolls_back = Asks requests.Rollback ∷ Gets answers.Done ∷ []

-- an answer that decides: a result, or a death with its code
abbrev pub decided_run : Answer → List Deed
decided_run answers.Began = Gets answers.Began ∷ []
decided_run (answers.Rows rows) = Gets (answers.Rows rows) ∷ []
decided_run (answers.Count n) = Gets (answers.Count n) ∷ []
decided_run answers.Locked = Gets answers.Locked ∷ []
decided_run answers.Done = Gets answers.Done ∷ []
decided_run (answers.Serial n) = Gets (answers.Serial n) ∷ []
decided_run (answers.Refused code) = Falls (Some code) ∷ []

abbrev pub decided_lock : Answer → List Deed
decided_lock answers.Began = []
decided_lock (answers.Rows rows) = []
decided_lock (answers.Count n) = []
decided_lock answers.Locked = []
decided_lock answers.Done = []
decided_lock (answers.Serial n) = []
decided_lock (answers.Refused code) = Falls (Some code) ∷ []

abbrev pub decided_opening : Answer → List Deed
decided_opening answers.Began = []
decided_opening (answers.Rows rows) = []
decided_opening (answers.Count n) = []
decided_opening answers.Locked = []
decided_opening answers.Done = []
decided_opening (answers.Serial n) = []
decided_opening (answers.Refused code) = Asks requests.TakeSnapshot ∷ Falls (Some code) ∷ []

-- a serial insert has its lock, and then its run, at one place
abbrev pub decided_by : Stage → Answer → List Deed
decided_by (Opening work) answer = []
decided_by (Reading work ticket) answer = decided_run answer
decided_by (Running work) answer = decided_run answer
decided_by (Locking work table) answer = decided_lock answer
decided_by (Inserting work under) answer = Gets answers.Locked ∷ Asks (requests.Run work.statement) ∷ decided_run answer
decided_by Committing answer = []
decided_by Closing answer = []
decided_by (RollingBack ending) answer = []

abbrev pub where_decided : Stage → Option Answer → List Deed
where_decided stage None = []
where_decided stage (Some answer) = decided_by stage answer

-- a commit without changes is at its order; with changes it is at the gate
abbrev pub at_commit : GatePhase → List Deed
at_commit Out = []
at_commit InSnapshot = []
at_commit (Live true tables) = []
at_commit (Live false tables) = commits
at_commit InCommit = []

abbrev pub at_block_commit : Status → GatePhase → List Deed
at_block_commit Idle phase = []
at_block_commit InBlock phase = at_commit phase
at_block_commit Failed phase = []

abbrev pub at_settle : Status → GatePhase → List Deed
at_settle Idle phase = at_commit phase
at_settle InBlock phase = []
at_settle Failed phase = []

abbrev pub at_rollback : Status → List Deed
at_rollback Idle = []
at_rollback InBlock = rolls_back
at_rollback Failed = []

-- a statement whose moment cannot be written is a rollback
abbrev pub at_statement : Option Work → List Deed
at_statement None = rolls_back
at_statement (Some work) = Asks (asks_of work) ∷ []

abbrev pub at_order : Session → ℤ → OrderBody → List Deed
at_order session moment (orders.Statement checked) =
    at_statement (rewritten (moment_at session.status session.gate session.moment moment) (work_in checked))
at_order session moment orders.Begin = []
at_order session moment orders.Commit = at_block_commit session.status session.gate
at_order session moment orders.Rollback = at_rollback session.status
at_order session moment orders.Settle = at_settle session.status session.gate
at_order session moment orders.ShowNodes = []
at_order session moment (orders.Recover b) = []
at_order session moment (orders.Refuse code name) = rolls_back
at_order session moment orders.Leave = rolls_back

-- the granted EnterCommit commits, and the closing Look decides
abbrev pub at_granted : Session → Point → List Deed
at_granted session (LookDue stage) = where_decided stage (closing_look session stage (primary session))
at_granted session (LeaveSnapshotDue work) = []
at_granted session EnterCommitDue = commits
at_granted session Resting = []
at_granted session (EnterDue work) = []
at_granted session (PostDue stage b) = []
at_granted session (Waiting stage b) = []
at_granted session (LostDue stage b before more) = []
at_granted session (SplitDue stage best own among more) = []
at_granted session (ChooseDue work) = []
at_granted session ShowDue = []
at_granted session (UnwindDue ending) = []
at_granted session (LeaveCommitDue ending) = []
at_granted session (FinishDue ending) = []
at_granted session (ReplyDue outcome) = []
at_granted session EndDue = []

abbrev pub at_call : Session → Point → GateAnswer → List Deed
at_call session point (Seen view) = at_granted (with_view session view) point
at_call session point (Granted view) = at_granted (with_view session view) point
at_call session point (Held count) = []
at_call session point Spent = rolls_back

abbrev pub at_parted : Session → Point → List Deed
at_parted session (SplitDue stage best own among more) =
    where_decided stage (closing_split session best (first_other among.bits best.answer (own.b.number + 1) session.heard) more (primary session))
at_parted session point = []

abbrev pub at_detach : Session → Point → GateAnswer → List Deed
at_detach session point (Seen view) = at_parted (with_view session view) point
at_detach session point (Granted view) = at_parted (with_view session view) point
at_detach session point (Held count) = []
at_detach session point Spent = []

-- the acts of a session at one of its events, where it has a live transaction in the single run
abbrev pub place_of : Session → Point → SessionEvent → List Deed
place_of session point (events.Ordered order) = at_order session order.moment order.body
place_of session point (events.Called call answer) = at_call session point answer
place_of session point (events.Posted b request) = []
place_of session point (events.Taken b answer) = []
place_of session point (events.Faulted b before more) = []
place_of session point (events.Detached b cause answer) = at_detach session point answer
place_of session point (events.Swapped b) = []
place_of session point (events.Replied outcome status) = []
place_of session point events.Ended = []

-- Openings, where it has none: at the granted LeaveSnapshot the transaction begins and its statement is asked; an opening that
-- is refused is at its closing Look, or at the last detachment where answers differ.

abbrev pub opens : Work → List Deed
opens work = Asks requests.TakeSnapshot ∷ Gets answers.Began ∷ Asks (asks_of work) ∷ []

abbrev pub opening_granted : Point → List Deed
opening_granted (LeaveSnapshotDue work) = opens work
opening_granted point = []

abbrev pub opening_of : Point → SessionEvent → List Deed
opening_of point (events.Called call (Granted view)) = opening_granted point
opening_of point event = []

abbrev pub where_refused : Option Answer → List Deed
where_refused None = []
where_refused (Some answer) = decided_opening answer

abbrev pub refused_look : Session → Point → List Deed
refused_look session (LookDue (Opening work)) = where_refused (closing_look session (Opening work) (primary session))
refused_look session point = []

abbrev pub refused_parted : Session → Point → List Deed
refused_parted session (SplitDue (Opening work) best own among more) =
    where_refused (closing_split session best (first_other among.bits best.answer (own.b.number + 1) session.heard) more (primary session))
refused_parted session point = []

abbrev pub refused_detach : Session → Point → GateAnswer → List Deed
refused_detach session point (Seen view) = refused_parted (with_view session view) point
refused_detach session point (Granted view) = refused_parted (with_view session view) point
refused_detach session point (Held count) = []
refused_detach session point Spent = []

abbrev pub refused_opening : Session → Point → SessionEvent → List Deed
refused_opening session point (events.Called call (Seen view)) = refused_look (with_view session view) point
refused_opening session point (events.Detached b cause answer) = refused_detach session point answer
refused_opening session point event = []

-- A code that a closing Look takes where the transaction has died before: the death was a refusal with it.

abbrev pub code_in : List Deed → Option Code
code_in [] = None
code_in (Asks request ∷ more) = code_in more
code_in (Gets answer ∷ more) = code_in more
code_in (Falls code ∷ more) = code

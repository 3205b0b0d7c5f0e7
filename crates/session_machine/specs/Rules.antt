-- The rules of a session: what is due, and where each event leads.
use Rattle.std.specs.Prelude.{ℕ, ℤ, pos, neg_ℤ, ◌+◌, ◌%◌, ◌^◌, Bool, true, false, ◌&&◌, if◌then◌else◌, int_le, bit_or, List, [], ◌∷◌, ◌++◌, length, Option, Some, None}
use Rattle.pool_base.specs.declared.session_id.SessionId.{SessionId}
use Rattle.pool_base.specs.declared.backend_id.BackendId.{BackendId}
use Rattle.pool_base.specs.declared.backend_set.BackendSet.{BackendSet}
use Rattle.pool_base.specs.declared.code.Code.{Code}
use Rattle.pool_base.specs.declared.gate_call.View.{View}
use Rattle.pool_base.specs.declared.gate_call.GateCall.TheVariants as calls
use Rattle.pool_base.specs.declared.gate_call.GateAnswer.{GateAnswer}
use Rattle.pool_base.specs.declared.gate_call.GateAnswer.TheVariants.{Seen, Granted, Held, Spent}
use Rattle.time_rewrite.specs.Rewriting.{at_moment}
use Rattle.backend_trait.specs.declared.request.Request.{Request}
use Rattle.backend_trait.specs.declared.request.Request.TheVariants as requests
use Rattle.backend_trait.specs.declared.answer.Answer.{Answer}
use Rattle.backend_trait.specs.declared.answer.Answer.TheVariants as answers
use Rattle.write_path.specs.declared.kind.ChainKind.{ChainKind}
use Rattle.write_path.specs.declared.kind.ChainKind.TheVariants.{All, StopAtRefusal}
use Rattle.session_machine.specs.Codes.{in_a_block, outside_a_block, moment_out_of_range, counts_spent, no_backend}
use Rattle.session_machine.specs.declared.work.Verb.TheVariants as verbs
use Rattle.session_machine.specs.declared.work.Class.{Class}
use Rattle.session_machine.specs.declared.work.Class.TheVariants as classes
use Rattle.session_machine.specs.declared.work.Work.{Work}
use Rattle.session_orders.specs.declared.order.OrderBody.{OrderBody}
use Rattle.session_orders.specs.declared.order.OrderBody.TheVariants as orders
use Rattle.session_orders.specs.declared.outcome.Tag.{Tag}
use Rattle.session_orders.specs.declared.outcome.Tag.TheVariants as tags
use Rattle.session_orders.specs.declared.outcome.Outcome.{Outcome}
use Rattle.session_orders.specs.declared.outcome.Outcome.TheVariants as outcomes
use Rattle.session_machine.specs.declared.status.Status.{Status}
use Rattle.session_machine.specs.declared.status.Status.TheVariants.{Idle, InBlock, Failed}
use Rattle.session_machine.specs.declared.action.Cause.TheVariants.{Fault, Differs}
use Rattle.session_machine.specs.declared.action.Action.{Action}
use Rattle.session_machine.specs.declared.action.Action.TheVariants as actions
use Rattle.session_machine.specs.declared.action.SessionEvent.{SessionEvent}
use Rattle.session_machine.specs.declared.action.SessionEvent.TheVariants as events
use Rattle.session_machine.specs.declared.machine.ReadPolicy.{ReadPolicy}
use Rattle.session_machine.specs.declared.machine.GatePhase.{GatePhase}
use Rattle.session_machine.specs.declared.machine.GatePhase.TheVariants.{Out, InSnapshot, Live, InCommit}
use Rattle.session_machine.specs.declared.machine.Heard.{Heard}
use Rattle.session_machine.specs.declared.machine.Ending.{Ending}
use Rattle.session_machine.specs.declared.machine.Ending.TheVariants.{Replies, Leaves}
use Rattle.session_machine.specs.declared.machine.Stage.{Stage}
use Rattle.session_machine.specs.declared.machine.Stage.TheVariants.{Opening, Reading, Running, Locking, Inserting, Committing, Closing, RollingBack}
use Rattle.session_machine.specs.declared.machine.Point.{Point}
use Rattle.session_machine.specs.declared.machine.Point.TheVariants.{Resting, EnterDue, LookDue, PostDue, Waiting, LostDue, SplitDue, ChooseDue, ShowDue, LeaveSnapshotDue, UnwindDue, EnterCommitDue, LeaveCommitDue, FinishDue, ReplyDue, EndDue}
use Rattle.session_machine.specs.declared.machine.Session.{Session}
use Rattle.session_machine.specs.declared.machine.Machine.{Machine}
use Rattle.session_machine.specs.Classes.{work_in}
use Rattle.session_machine.specs.Answers.{lowest, next_of, kept, first_other, goes_on, reader, counts}

-- A session, and what is due of it.

abbrev pub due : Session → Point → Machine
due session point = record { session = session; point = point }

abbrev pub new_session : SessionId → ReadPolicy → Session
new_session id policy =
    record {
      id = id;
      policy = policy;
      status = Idle;
      moment = pos 0;
      gate = Out;
      view = record { attached = record { bits = 0 }; epoch = 0; touched = 0; done = 0 };
      heard = [];
      reads = 0;
    }

abbrev pub new_machine : SessionId → ReadPolicy → Machine
new_machine id policy = due (new_session id policy) Resting

abbrev pub primary : Session → Option BackendId
primary session = lowest session.view.attached.bits

-- what a stage asks of a backend
abbrev pub request_of : Stage → Request
request_of (Opening work) = requests.TakeSnapshot
request_of (Reading work ticket) = requests.Run work.statement
request_of (Running work) = requests.Run work.statement
request_of (Locking work table) = requests.Lock table
request_of (Inserting work posted) = requests.Run work.statement
request_of Committing = requests.Commit
request_of Closing = requests.Commit
request_of (RollingBack ending) = requests.Rollback

-- it runs a statement
abbrev pub is_run : Request → Bool
is_run requests.TakeSnapshot = false
is_run (requests.Run checked) = true
is_run (requests.Lock table) = false
is_run requests.Commit = false
is_run requests.Rollback = false
is_run (requests.ReadSerial table) = false
is_run (requests.SetSerial table n) = false

-- a write, a locking read and a lock stop where the primary has refused; a serial insert draws at every backend
abbrev pub kind_of : Stage → ChainKind
kind_of (Opening work) = All
kind_of (Reading work ticket) = All
kind_of (Running work) = StopAtRefusal
kind_of (Locking work table) = StopAtRefusal
kind_of (Inserting work posted) = All
kind_of Committing = All
kind_of Closing = All
kind_of (RollingBack ending) = All

abbrev pub tables_of : GatePhase → ℕ
tables_of Out = 0
tables_of InSnapshot = 0
tables_of (Live changed tables) = tables
tables_of InCommit = 0

-- What is due.

abbrev pub action_at : Session → Point → Action
action_at session Resting = actions.Rest
action_at session (EnterDue work) = actions.Gate calls.EnterSnapshot
action_at session (LookDue stage) = actions.Gate calls.Look
action_at session (PostDue stage b) = actions.Post b (request_of stage)
action_at session (Waiting stage b) = actions.WaitFor b
action_at session (LostDue stage b before after) = actions.Detach b (Fault before after)
action_at session (SplitDue stage best own among more) = actions.Detach own.b (Differs best.answer own.answer)
action_at session (ChooseDue work) = actions.Gate calls.Look
action_at session ShowDue = actions.Gate calls.Look
action_at session (LeaveSnapshotDue work) = actions.Gate calls.LeaveSnapshot
action_at session (UnwindDue ending) = actions.Gate calls.LeaveSnapshot
action_at session EnterCommitDue = actions.Gate (calls.EnterCommit (tables_of session.gate))
action_at session (LeaveCommitDue ending) = actions.Gate calls.LeaveCommit
action_at session (FinishDue ending) = actions.Gate calls.Finish
action_at session (ReplyDue outcome) = actions.Reply outcome session.status
action_at session EndDue = actions.End

abbrev pub next_action : Machine → Action
next_action m = action_at m.session m.point

-- How an order ends.

abbrev pub error_of : Code → Outcome
error_of code = outcomes.Error code []

abbrev pub done_with : Tag → Outcome
done_with tag = outcomes.Done tag None

-- with the reply, or with the session
abbrev pub ended : Session → Ending → Machine
ended session (Replies outcome) = due session (ReplyDue outcome)
ended session Leaves = due session EndDue

-- before that what is due at the gate: LeaveSnapshot and Finish, or LeaveCommit
abbrev pub released : Session → GatePhase → Ending → Machine
released session Out ending = ended session ending
released session InSnapshot ending = due session (UnwindDue ending)
released session (Live changed tables) ending = due session (FinishDue ending)
released session InCommit ending = due session (LeaveCommitDue ending)

-- Chains begin without answers: with a Look, or right behind a Look (true) with the first post.

abbrev pub begun : Session → Stage → Machine
begun session stage = due (record session { heard = [] }) (LookDue stage)

abbrev pub begun_at : Session → Stage → Option BackendId → Machine
begun_at session stage None = begun session stage
begun_at session stage (Some b) = due (record session { heard = [] }) (PostDue stage b)

abbrev pub begun_behind : Bool → Session → Stage → Machine
begun_behind true session stage = begun_at session stage (primary session)
begun_behind false session stage = begun session stage

-- A refusal fails the transaction: a rollback at all backends, what is due at the gate, then the reply. A block goes to Failed,
-- an implicit transaction ends. Without a transaction there is only the reply.

abbrev pub status_failed : Status → Status
status_failed Idle = Idle
status_failed InBlock = Failed
status_failed Failed = Failed

-- the letter by which a client is told of it
abbrev pub status_byte : Status → ℕ
status_byte Idle = 73
status_byte InBlock = 84
status_byte Failed = 69

abbrev pub failing : Session → Session
failing session = record session { status = status_failed session.status }

abbrev pub refused_at : Bool → Session → GatePhase → Outcome → Machine
refused_at behind session Out outcome = due (failing session) (ReplyDue outcome)
refused_at behind session InSnapshot outcome = begun_behind behind (failing session) (RollingBack (Replies outcome))
refused_at behind session (Live changed tables) outcome = begun_behind behind (failing session) (RollingBack (Replies outcome))
refused_at behind session InCommit outcome = begun_behind behind (failing session) (RollingBack (Replies outcome))

abbrev pub refused : Bool → Session → Outcome → Machine
refused behind session outcome = refused_at behind session session.gate outcome

-- A view without attached backends: what is due at the gate, and 57P03, which fails a block; ..

abbrev pub stranded : Session → Machine
stranded session = released (failing session) session.gate (Replies (error_of no_backend))

-- .. but a rollback goes on to its end, and from an entered commit the session ends without a reply
abbrev pub stranded_in : Session → Stage → Machine
stranded_in session (Opening work) = stranded session
stranded_in session (Reading work ticket) = stranded session
stranded_in session (Running work) = stranded session
stranded_in session (Locking work table) = stranded session
stranded_in session (Inserting work posted) = stranded session
stranded_in session Committing = due session (LeaveCommitDue Leaves)
stranded_in session Closing = stranded session
stranded_in session (RollingBack ending) = released session session.gate ending

-- Orders.

-- a statement with a transaction: a read chooses its backend, a serial insert takes its table's lock first
abbrev pub started_as : Session → Work → Class → Machine
started_as session work classes.Read = due (record session { heard = [] }) (ChooseDue work)
started_as session work classes.LockingRead = begun session (Running work)
started_as session work (classes.Write verb) = begun session (Running work)
started_as session work (classes.SerialInsert table) = begun session (Locking work table)

abbrev pub started : Session → Work → Machine
started session work = started_as session work work.class

-- a moment of the years 1 to 9999 can stand in place of a statement's time functions
abbrev pub is_moment : ℤ → Bool
is_moment moment = int_le (neg_ℤ (pos 63_082_281_600_000_000)) moment && int_le moment (pos 252_455_615_999_999_999)

-- a statement at a moment
abbrev pub work_at : ℤ → Work → Work
work_at moment work = record { statement = at_moment moment work.statement; class = work.class; tables = work.tables }

abbrev pub rewritten : ℤ → Work → Option Work
rewritten moment work = if is_moment moment then Some (work_at moment work) else None

-- the moment of a transaction is that of its block, or of the first order of an implicit one
abbrev pub moment_at : Status → GatePhase → ℤ → ℤ → ℤ
moment_at Idle Out own ordered = ordered
moment_at Idle InSnapshot own ordered = own
moment_at Idle (Live changed tables) own ordered = own
moment_at Idle InCommit own ordered = own
moment_at InBlock phase own ordered = own
moment_at Failed phase own ordered = own

-- a statement without a snapshot enters the gate first
abbrev pub entering : Session → GatePhase → Work → Machine
entering session Out work = due session (EnterDue work)
entering session InSnapshot work = started session work
entering session (Live changed tables) work = started session work
entering session InCommit work = started session work

-- it is rewritten before that; where that cannot be, it is refused with 22008
abbrev pub stated : Session → ℤ → Option Work → Machine
stated session moment None = refused false session (error_of moment_out_of_range)
stated session moment (Some work) = entering (record session { moment = moment }) session.gate work

unfoldable pub stated_at : Session → ℤ → Work → Machine
stated_at session moment work = stated session moment (rewritten moment work)

-- BEGIN starts a block at the order's moment and asks nobody; in a block it is a warning
unfoldable pub block_begun : Session → ℤ → Status → Machine
block_begun session moment Idle = due (record session { status = InBlock; moment = moment }) (ReplyDue (done_with tags.Begin))
block_begun session moment InBlock = due session (ReplyDue (outcomes.Done tags.Begin (Some in_a_block)))
block_begun session moment Failed = due session (ReplyDue (outcomes.Done tags.Begin (Some in_a_block)))

abbrev pub idle : Session → Session
idle session = record session { status = Idle }

-- a transaction commits: through the gate where a write has succeeded
abbrev pub committing : Session → GatePhase → Outcome → Machine
committing session Out outcome = due (idle session) (ReplyDue outcome)
committing session InSnapshot outcome = due (idle session) (ReplyDue outcome)
committing session (Live true tables) outcome = due session EnterCommitDue
committing session (Live false tables) outcome = begun session Closing
committing session InCommit outcome = due (idle session) (ReplyDue outcome)

-- COMMIT outside a block is a warning, and of a failed block a rollback
unfoldable pub block_committed : Session → Status → Machine
block_committed session Idle = due session (ReplyDue (outcomes.Done tags.Commit (Some outside_a_block)))
block_committed session InBlock = committing session session.gate (done_with tags.Commit)
block_committed session Failed = due (idle session) (ReplyDue (done_with tags.Rollback))

-- ROLLBACK ends the block, and its transaction where it has one
abbrev pub rolled_back : Session → GatePhase → Machine
rolled_back session Out = due (idle session) (ReplyDue (done_with tags.Rollback))
rolled_back session InSnapshot = begun (idle session) (RollingBack (Replies (done_with tags.Rollback)))
rolled_back session (Live changed tables) = begun (idle session) (RollingBack (Replies (done_with tags.Rollback)))
rolled_back session InCommit = begun (idle session) (RollingBack (Replies (done_with tags.Rollback)))

unfoldable pub block_rolled_back : Session → Status → Machine
block_rolled_back session Idle = due session (ReplyDue (outcomes.Done tags.Rollback (Some outside_a_block)))
block_rolled_back session InBlock = rolled_back session session.gate
block_rolled_back session Failed = due (idle session) (ReplyDue (done_with tags.Rollback))

-- the end of a text commits an implicit transaction
unfoldable pub settled : Session → Status → Machine
settled session Idle = committing session session.gate outcomes.Settled
settled session InBlock = due session (ReplyDue outcomes.Settled)
settled session Failed = due session (ReplyDue outcomes.Settled)

-- the client is gone: a rollback without a reply, and the end; a transaction that is ending goes on to its end
abbrev pub leaving : Session → GatePhase → Machine
leaving session Out = due session EndDue
leaving session InSnapshot = begun session (RollingBack Leaves)
leaving session (Live changed tables) = begun session (RollingBack Leaves)
leaving session InCommit = begun session (RollingBack Leaves)

abbrev pub left_in : Session → Stage → Machine
left_in session (Opening work) = leaving session session.gate
left_in session (Reading work ticket) = leaving session session.gate
left_in session (Running work) = leaving session session.gate
left_in session (Locking work table) = leaving session session.gate
left_in session (Inserting work posted) = leaving session session.gate
left_in session Committing = leaving session session.gate
left_in session Closing = leaving session session.gate
left_in session (RollingBack ending) = due session (LookDue (RollingBack Leaves))

-- a lost backend is detached first, and the rollback begins or goes on behind that
abbrev pub rolling_lost : Session → BackendId → ℕ → ℕ → Machine
rolling_lost session b before after = due session (LostDue (RollingBack Leaves) b before after)

abbrev pub left_lost : Session → Stage → BackendId → ℕ → ℕ → Machine
left_lost session (Opening work) b before after = rolling_lost (record session { heard = [] }) b before after
left_lost session (Reading work ticket) b before after = rolling_lost (record session { heard = [] }) b before after
left_lost session (Running work) b before after = rolling_lost (record session { heard = [] }) b before after
left_lost session (Locking work table) b before after = rolling_lost (record session { heard = [] }) b before after
left_lost session (Inserting work posted) b before after = rolling_lost (record session { heard = [] }) b before after
left_lost session Committing b before after = rolling_lost (record session { heard = [] }) b before after
left_lost session Closing b before after = rolling_lost (record session { heard = [] }) b before after
left_lost session (RollingBack ending) b before after = rolling_lost session b before after

unfoldable pub left : Session → Point → Machine
left session Resting = leaving session session.gate
left session (EnterDue work) = leaving session session.gate
left session (LookDue stage) = left_in session stage
left session (PostDue stage b) = left_in session stage
left session (Waiting stage b) = left_in session stage
left session (LostDue stage b before after) = left_lost session stage b before after
left session (SplitDue stage best own among more) = left_in session stage
left session (ChooseDue work) = leaving session session.gate
left session ShowDue = leaving session session.gate
left session (LeaveSnapshotDue work) = leaving session session.gate
left session (UnwindDue ending) = due session (UnwindDue Leaves)
left session EnterCommitDue = leaving session session.gate
left session (LeaveCommitDue ending) = due session (LeaveCommitDue Leaves)
left session (FinishDue ending) = due session (FinishDue Leaves)
left session (ReplyDue outcome) = leaving session session.gate
left session EndDue = leaving session session.gate

unfoldable pub ordered : Session → Point → ℤ → OrderBody → Machine
ordered session point moment (orders.Statement checked) =
    stated_at session (moment_at session.status session.gate session.moment moment) (work_in checked)
ordered session point moment orders.Begin = block_begun session moment session.status
ordered session point moment orders.Commit = block_committed session session.status
ordered session point moment orders.Rollback = block_rolled_back session session.status
ordered session point moment orders.Settle = settled session session.status
ordered session point moment orders.ShowNodes = due session ShowDue
ordered session point moment (orders.Recover b) = due session Resting
ordered session point moment (orders.Refuse code name) = refused false session (outcomes.Error code name)
ordered session point moment orders.Leave = left session point

-- What a chain's end leads to; behind a Look (true) the next chain needs no other.

abbrev pub tag_of : Class → ℕ → Tag
tag_of classes.Read n = tags.Select n
tag_of classes.LockingRead n = tags.Select n
tag_of (classes.Write verbs.Insert) n = tags.Insert n
tag_of (classes.Write verbs.Update) n = tags.Update n
tag_of (classes.Write verbs.Delete) n = tags.Delete n
tag_of (classes.SerialInsert table) n = tags.Insert n

-- a write has succeeded
abbrev pub phase_changed : GatePhase → ℕ → GatePhase
phase_changed Out more = Out
phase_changed InSnapshot more = InSnapshot
phase_changed (Live changed tables) more = Live true (bit_or tables more)
phase_changed InCommit more = InCommit

abbrev pub ran : Bool → Session → Work → Answer → Machine
ran behind session work (answers.Refused code) = refused behind session (error_of code)
ran behind session work (answers.Rows rows) = due session (ReplyDue (outcomes.Rows rows (tags.Select (length rows))))
ran behind session work (answers.Count n) =
    due (record session { gate = phase_changed session.gate work.tables }) (ReplyDue (done_with (tag_of work.class n)))
-- the answer to a Run is rows, a count or a refusal, by the clause `form` that every backend meets: none of these comes
ran behind session work answers.Began = due session Resting
ran behind session work answers.Locked = due session Resting
ran behind session work answers.Done = due session Resting
ran behind session work (answers.Serial n) = due session Resting

abbrev pub refusal_of : Answer → Option Code
refusal_of answers.Began = None
refusal_of (answers.Rows rows) = None
refusal_of (answers.Count n) = None
refusal_of answers.Locked = None
refusal_of answers.Done = None
refusal_of (answers.Serial n) = None
refusal_of (answers.Refused code) = Some code

-- the answer to TakeSnapshot is Began or a refusal, and to Lock it is Locked or a refusal, by the same clause
abbrev pub opened : Bool → Session → Work → Option Code → Machine
opened behind session work None = due session (LeaveSnapshotDue work)
opened behind session work (Some code) = refused behind session (error_of code)

abbrev pub locked : Bool → Session → Work → Option Code → Machine
locked behind session work None = begun_behind behind session (Inserting work false)
locked behind session work (Some code) = refused behind session (error_of code)

-- the answer to Commit and Rollback is Done, by the same clause
abbrev pub commit_outcome : Status → Outcome
commit_outcome Idle = outcomes.Settled
commit_outcome InBlock = done_with tags.Commit
commit_outcome Failed = done_with tags.Commit

abbrev pub closed : Bool → Session → Stage → Answer → Machine
closed behind session (Opening work) answer = opened behind session work (refusal_of answer)
closed behind session (Reading work ticket) answer = ran behind session work answer
closed behind session (Running work) answer = ran behind session work answer
closed behind session (Locking work table) answer = locked behind session work (refusal_of answer)
closed behind session (Inserting work posted) answer = ran behind session work answer
closed behind session Committing answer = due (idle session) (LeaveCommitDue (Replies (commit_outcome session.status)))
closed behind session Closing answer = due (idle session) (FinishDue (Replies (commit_outcome session.status)))
closed behind session (RollingBack ending) answer = released session session.gate ending

-- Judging: the backends that differ from the kept answer are detached one after another, in rising order. Then, where the kept
-- answer is no refusal and an attached backend had not answered (more), the chain goes on; else the kept answer decides.

abbrev pub decided : Bool → Session → Stage → Answer → Bool → Machine
decided behind session stage answer true = due session (LookDue stage)
decided behind session stage answer false = closed behind session stage answer

abbrev pub split : Bool → Session → Stage → Heard → BackendSet → Bool → Option Heard → Machine
split behind session stage best among more None = decided behind session stage best.answer more
split behind session stage best among more (Some own) = due session (SplitDue stage best own among more)

abbrev pub judged : Session → Stage → Option Heard → Machine
judged session stage None = due session (LookDue stage)
judged session stage (Some best) =
    split true session stage best session.view.attached
    (goes_on session.view.attached.bits session.heard best.answer)
    (first_other session.view.attached.bits best.answer 0 session.heard)

-- A Look.

-- a chain goes to the next backend; at its end it is judged
unfoldable pub asked : Session → Stage → Option BackendId → Machine
asked session stage (Some b) = due session (PostDue stage b)
asked session stage None = judged session stage (kept session.view.attached.bits session.heard)

-- a read: its answer counts where its backend is still attached; else, and where there is none, the choice is made again
abbrev pub reading_at : Session → Work → ℕ → Option BackendId → Machine
reading_at session work ticket None = stranded session
reading_at session work ticket (Some b) = due (record session { heard = [] }) (PostDue (Reading work ticket) b)

abbrev pub chosen : Session → Work → ℕ → Machine
chosen session work ticket = reading_at session work ticket (reader session.policy session.view.attached.bits ticket)

abbrev pub read : Session → Work → ℕ → List Heard → Machine
read session work ticket [] = chosen session work ticket
read session work ticket (h ∷ hs) =
    if counts session.view.attached.bits h then closed true session (Reading work ticket) h.answer else chosen session work ticket

abbrev pub looked : Session → Stage → Machine
looked session (Reading work ticket) = read session work ticket session.heard
looked session (Opening work) = asked session (Opening work) (next_of All session.view.attached.bits session.heard)
looked session (Running work) = asked session (Running work) (next_of StopAtRefusal session.view.attached.bits session.heard)
looked session (Locking work table) =
    asked session (Locking work table) (next_of StopAtRefusal session.view.attached.bits session.heard)
looked session (Inserting work posted) =
    asked session (Inserting work posted) (next_of All session.view.attached.bits session.heard)
looked session Committing = asked session Committing (next_of All session.view.attached.bits session.heard)
looked session Closing = asked session Closing (next_of All session.view.attached.bits session.heard)
looked session (RollingBack ending) =
    asked session (RollingBack ending) (next_of All session.view.attached.bits session.heard)

abbrev pub looked_at : Session → Stage → Option BackendId → Machine
looked_at session stage None = stranded_in session stage
looked_at session stage (Some b) = looked session stage

-- the ticket: the session's number, and where each statement has its own the number of its reads so far
abbrev pub ticket_of : Session → Bool → ℕ
ticket_of session true = session.id.number + session.reads
ticket_of session false = session.id.number

abbrev pub counted_read : Session → Session
counted_read session = record session { reads = (session.reads + 1) % 2 ^ 32 }

abbrev pub first_chosen : Session → Work → Option BackendId → Machine
first_chosen session work None = stranded session
first_chosen session work (Some b) = chosen (counted_read session) work (ticket_of session session.policy.per_statement)

abbrev pub shown : Session → Option BackendId → Machine
shown session None = stranded session
shown session (Some b) = due session (ReplyDue (outcomes.Nodes session.view.attached))

-- The other calls of the gate.

abbrev pub snapshot_entered : Session → Work → Option BackendId → Machine
snapshot_entered session work None = stranded session
snapshot_entered session work (Some b) = begun session (Opening work)

abbrev pub snapshot_left : Session → Work → Option BackendId → Machine
snapshot_left session work None = stranded session
snapshot_left session work (Some b) = started session work

abbrev pub commit_entered : Session → Option BackendId → Machine
commit_entered session None = stranded_in session Committing
commit_entered session (Some b) = begun session Committing

abbrev pub with_view : Session → View → Session
with_view session view = record session { view = view }

abbrev pub in_phase : Session → GatePhase → Session
in_phase session phase = record session { gate = phase }

-- a call that was seen or granted, by what was due; the session has the view already
unfoldable pub granted : Session → Point → Machine
granted session (EnterDue work) = snapshot_entered (in_phase session InSnapshot) work (primary session)
granted session (LookDue stage) = looked_at session stage (primary session)
granted session (ChooseDue work) = first_chosen session work (primary session)
granted session ShowDue = shown session (primary session)
granted session (LeaveSnapshotDue work) = snapshot_left (in_phase session (Live false 0)) work (primary session)
granted session (UnwindDue ending) = due (in_phase session (Live false 0)) (FinishDue ending)
granted session EnterCommitDue = commit_entered (in_phase session InCommit) (primary session)
granted session (LeaveCommitDue ending) = ended (in_phase session Out) ending
granted session (FinishDue ending) = ended (in_phase session Out) ending
granted session Resting = due session Resting
granted session (PostDue stage b) = due session (PostDue stage b)
granted session (Waiting stage b) = due session (Waiting stage b)
granted session (LostDue stage b before after) = due session (LostDue stage b before after)
granted session (SplitDue stage best own among more) = due session (SplitDue stage best own among more)
granted session (ReplyDue outcome) = due session (ReplyDue outcome)
granted session EndDue = due session EndDue

unfoldable pub called : Session → Point → GateAnswer → Machine
called session point (Seen view) = granted (with_view session view) point
called session point (Granted view) = granted (with_view session view) point
called session point (Held count) = due session point
called session point Spent = refused false session (error_of counts_spent)

-- Posts, answers, losses.

-- from its first post on a serial insert is under way
abbrev pub stage_posted : Stage → Stage
stage_posted (Inserting work posted) = Inserting work true
stage_posted (Opening work) = Opening work
stage_posted (Reading work ticket) = Reading work ticket
stage_posted (Running work) = Running work
stage_posted (Locking work table) = Locking work table
stage_posted Committing = Committing
stage_posted Closing = Closing
stage_posted (RollingBack ending) = RollingBack ending

abbrev pub posted : Session → Point → Machine
posted session (PostDue stage b) = due session (Waiting (stage_posted stage) b)
posted session point = due session point

-- after an answer there is a Look
abbrev pub heard_more : Session → BackendId → Answer → Session
heard_more session b answer = record session { heard = session.heard ++ record { b = b; answer = answer } ∷ [] }

abbrev pub taken : Session → BackendId → Answer → Point → Machine
taken session b answer (Waiting stage asked) = due (heard_more session b answer) (LookDue stage)
taken session b answer point = due session point

-- a lost backend is detached with its two counts; then there is a Look
abbrev pub faulted : Session → ℕ → ℕ → Point → Machine
faulted session before after (Waiting stage b) = due session (LostDue stage b before after)
faulted session before after point = due session point

abbrev pub lost_one : Session → Stage → Option BackendId → Machine
lost_one session stage None = stranded_in session stage
lost_one session stage (Some b) = due session (LookDue stage)

abbrev pub parted : Session → Stage → Heard → Heard → BackendSet → Bool → Option BackendId → Machine
parted session stage best own among more None = stranded_in session stage
parted session stage best own among more (Some b) =
    split false session stage best among more (first_other among.bits best.answer (own.b.number + 1) session.heard)

abbrev pub parted_at : Session → Point → Machine
parted_at session (LostDue stage b before after) = lost_one session stage (primary session)
parted_at session (SplitDue stage best own among more) = parted session stage best own among more (primary session)
parted_at session point = due session point

unfoldable pub detached : Session → Point → GateAnswer → Machine
detached session point (Seen view) = parted_at (with_view session view) point
detached session point (Granted view) = parted_at (with_view session view) point
detached session point (Held count) = due session point
detached session point Spent = due session point

-- Where an event leads.

unfoldable pub after_at : Session → Point → SessionEvent → Machine
after_at session point (events.Ordered order) = ordered session point order.moment order.body
after_at session point (events.Called call answer) = called session point answer
after_at session point (events.Posted b request) = posted session point
after_at session point (events.Taken b answer) = taken session b answer point
after_at session point (events.Faulted b before after) = faulted session before after point
after_at session point (events.Detached b cause answer) = detached session point answer
after_at session point (events.Swapped b) = due session point
after_at session point (events.Replied outcome status) = due session Resting
after_at session point events.Ended = new_machine session.id session.policy

abbrev pub after : Machine → SessionEvent → Machine
after m event = after_at m.session m.point event

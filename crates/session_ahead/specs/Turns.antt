-- What the laws of coming posts speak of: where a session turns, what is kept of what was coming, and where a commit is.
use Rattle.std.specs.Prelude.{◌≡◌, ◌⊎◌, ℕ, Bool, true, false, List, [], ◌∷◌, ◌++◌, Option, Some, None, ⊤}
use Rattle.std.specs.List.{slice_get}
use Rattle.pool_base.specs.Sets.{has}
use Rattle.pool_base.specs.declared.backend_id.BackendId.{BackendId}
use Rattle.pool_base.specs.declared.gate_call.View.{View}
use Rattle.pool_base.specs.declared.gate_call.GateCall.TheVariants as calls
use Rattle.pool_base.specs.declared.gate_call.GateAnswer.{GateAnswer}
use Rattle.pool_base.specs.declared.gate_call.GateAnswer.TheVariants.{Seen, Granted, Held, Spent}
use Rattle.backend_trait.specs.declared.answer.Answer.{Answer}
use Rattle.session_orders.specs.declared.order.OrderBody.{OrderBody}
use Rattle.session_orders.specs.declared.order.OrderBody.TheVariants as orders
use Rattle.session_machine.specs.declared.work.Class.{Class}
use Rattle.session_machine.specs.declared.work.Class.TheVariants as classes
use Rattle.session_machine.specs.declared.action.Action.TheVariants as actions
use Rattle.session_machine.specs.declared.action.SessionEvent.{SessionEvent}
use Rattle.session_machine.specs.declared.action.SessionEvent.TheVariants as events
use Rattle.session_machine.specs.declared.machine.GatePhase.{GatePhase}
use Rattle.session_machine.specs.declared.machine.GatePhase.TheVariants.{Out, InSnapshot, Live, InCommit}
use Rattle.session_machine.specs.declared.machine.Stage.{Stage}
use Rattle.session_machine.specs.declared.machine.Stage.TheVariants.{Opening, Reading, Running, Locking, Inserting, Committing, Closing, RollingBack}
use Rattle.session_machine.specs.declared.machine.Point.{Point}
use Rattle.session_machine.specs.declared.machine.Point.TheVariants.{Resting, EnterDue, LookDue, PostDue, Waiting, LostDue, SplitDue, ChooseDue, ShowDue, LeaveSnapshotDue, UnwindDue, EnterCommitDue, LeaveCommitDue, FinishDue, ReplyDue, EndDue}
use Rattle.session_machine.specs.declared.machine.Session.{Session}
use Rattle.session_machine.specs.declared.machine.Machine.{Machine}
use Rattle.session_machine.specs.Rules.{primary, next_action, after}
use Rattle.session_ahead.specs.declared.post.Post.{Post}
use Rattle.session_ahead.specs.Coming.{is_began, is_past, post_of, coming}

-- Among these, at some place; and: these come first.

abbrev pub IsAmong : {X : Type 0} → X → List X → Type 0
IsAmong x xs = (at : ℕ) × (slice_get xs at ≡ Some x)

abbrev pub StartsWith : List Post → List Post → Type 0
StartsWith posts first = (rest : List Post) × (posts ≡ first ++ rest)

abbrev pub posted_by : SessionEvent → List Post
posted_by (events.Ordered order) = []
posted_by (events.Called call answer) = []
posted_by (events.Posted b request) = post_of request b ∷ []
posted_by (events.Taken b answer) = []
posted_by (events.Faulted b before after) = []
posted_by (events.Detached b cause answer) = []
posted_by (events.Swapped b) = []
posted_by (events.Replied outcome status) = []
posted_by events.Ended = []

-- A session turns where its client leaves, where the gate shows another set than in its last view, where a snapshot is answered
-- otherwise than by Began, and where a backend is detached. Each other event is straight.

abbrev pub is_leave : OrderBody → Bool
is_leave (orders.Statement checked) = false
is_leave orders.Begin = false
is_leave orders.Commit = false
is_leave orders.Rollback = false
is_leave orders.Settle = false
is_leave orders.ShowNodes = false
is_leave (orders.Recover b) = false
is_leave (orders.Refuse code name) = false
is_leave orders.Leave = true

abbrev pub ShowsSame : Session → GateAnswer → Type 0
ShowsSame session (Seen view) = view.attached.bits ≡ session.view.attached.bits
ShowsSame session (Granted view) = view.attached.bits ≡ session.view.attached.bits
ShowsSame session (Held count) = ⊤
ShowsSame session Spent = ⊤

abbrev pub TakesSnapshot : Stage → Answer → Type 0
TakesSnapshot (Opening work) answer = is_began answer ≡ true
TakesSnapshot (Reading work ticket) answer = ⊤
TakesSnapshot (Running work) answer = ⊤
TakesSnapshot (Locking work table) answer = ⊤
TakesSnapshot (Inserting work posted) answer = ⊤
TakesSnapshot Committing answer = ⊤
TakesSnapshot Closing answer = ⊤
TakesSnapshot (RollingBack ending) answer = ⊤

-- the stage of a chain that is under way
abbrev pub stage_at : Point → Option Stage
stage_at Resting = None
stage_at (EnterDue work) = None
stage_at (LookDue stage) = Some stage
stage_at (PostDue stage b) = Some stage
stage_at (Waiting stage b) = Some stage
stage_at (LostDue stage b before after) = Some stage
stage_at (SplitDue stage best own among more) = Some stage
stage_at (ChooseDue work) = None
stage_at ShowDue = None
stage_at (LeaveSnapshotDue work) = None
stage_at (UnwindDue ending) = None
stage_at EnterCommitDue = None
stage_at (LeaveCommitDue ending) = None
stage_at (FinishDue ending) = None
stage_at (ReplyDue outcome) = None
stage_at EndDue = None

abbrev pub IsStraight : Machine → SessionEvent → Type 0
IsStraight m (events.Ordered order) = is_leave order.body ≡ false
IsStraight m (events.Called call answer) = ShowsSame m.session answer
IsStraight m (events.Posted b request) = ⊤
IsStraight m (events.Taken b answer) = (stage : Stage) → stage_at m.point ≡ Some stage → TakesSnapshot stage answer
IsStraight m (events.Faulted b before after) = ⊤
IsStraight m (events.Detached b cause answer) = ⊥
IsStraight m (events.Swapped b) = ⊥
IsStraight m (events.Replied outcome status) = ⊤
IsStraight m events.Ended = ⊤

-- what was coming has been posted, or is coming still
abbrev pub IsKept : Machine → SessionEvent → Post → Type 0
IsKept m event post = IsAmong post (posted_by event ++ coming (after m event))

-- its backend is not attached in the view behind the event
abbrev pub IsGone : Machine → SessionEvent → Post → Type 0
IsGone m event post = has (after m event).session.view.attached.bits post.b.number ≡ false

-- Where a commit, a rollback and a serial insert are under way.

abbrev pub Commits : Point → Type 0
Commits point = stage_at point ≡ Some Committing

abbrev pub Closes : Point → Type 0
Closes point = stage_at point ≡ Some Closing

abbrev pub is_rolling : Stage → Bool
is_rolling (Opening work) = false
is_rolling (Reading work ticket) = false
is_rolling (Running work) = false
is_rolling (Locking work table) = false
is_rolling (Inserting work posted) = false
is_rolling Committing = false
is_rolling Closing = false
is_rolling (RollingBack ending) = true

abbrev pub RollsBack : Point → Type 0
RollsBack point = (stage : Stage) × (stage_at point ≡ Some stage) × (is_rolling stage ≡ true)

-- the gate has let it in
abbrev pub IsEntry : SessionEvent → Type 0
IsEntry event = (tables : ℕ) × (view : View) × (event ≡ events.Called (calls.EnterCommit tables) (Granted view))

-- no write of its transaction has succeeded
abbrev pub has_changed : GatePhase → Bool
has_changed Out = false
has_changed InSnapshot = false
has_changed (Live changed tables) = changed
has_changed InCommit = false

-- Who waits for the primary.

abbrev pub is_read : Class → Bool
is_read classes.Read = true
is_read classes.LockingRead = false
is_read (classes.Write verb) = false
is_read (classes.SerialInsert table) = false

abbrev pub reads_in : Stage → Bool
reads_in (Opening work) = is_read work.class
reads_in (Reading work ticket) = true
reads_in (Running work) = false
reads_in (Locking work table) = false
reads_in (Inserting work posted) = false
reads_in Committing = false
reads_in Closing = false
reads_in (RollingBack ending) = false

-- the statement that is coming is a plain read, which goes to one backend
abbrev pub reads_at : Point → Bool
reads_at Resting = false
reads_at (EnterDue work) = false
reads_at (LookDue stage) = reads_in stage
reads_at (PostDue stage b) = reads_in stage
reads_at (Waiting stage b) = reads_in stage
reads_at (LostDue stage b before after) = reads_in stage
reads_at (SplitDue stage best own among more) = reads_in stage
reads_at (ChooseDue work) = true
reads_at ShowDue = false
reads_at (LeaveSnapshotDue work) = is_read work.class
reads_at (UnwindDue ending) = false
reads_at EnterCommitDue = false
reads_at (LeaveCommitDue ending) = false
reads_at (FinishDue ending) = false
reads_at (ReplyDue outcome) = false
reads_at EndDue = false

abbrev pub is_serial_posted : Stage → Bool
is_serial_posted (Opening work) = false
is_serial_posted (Reading work ticket) = false
is_serial_posted (Running work) = false
is_serial_posted (Locking work table) = false
is_serial_posted (Inserting work posted) = posted
is_serial_posted Committing = false
is_serial_posted Closing = false
is_serial_posted (RollingBack ending) = false

abbrev pub InsertsSerial : Point → Type 0
InsertsSerial point = (stage : Stage) × (stage_at point ≡ Some stage) × (is_serial_posted stage ≡ true)

-- it is due, and is no more told ahead than posted
abbrev pub IsDue : Machine → Post → Type 0
IsDue m post = next_action m ≡ actions.Post post.b post.request

-- it goes to the primary, or the primary has answered and has not refused
abbrev pub Waits : Session → BackendId → Type 0
Waits session b = (primary session ≡ Some b) ⊎ (is_past session ≡ true)

-- Which posts of a session are coming: they are made next, in this order, unless the session turns. The post that is due is the
-- first of them. They can be sent before the session comes to them.
use Rattle.std.specs.Prelude.{ℕ, Bool, true, false, not, ◌&&◌, ◌==◌, if◌then◌else◌, List, [], ◌∷◌, ◌++◌, map, filter, Option, Some, None, option_map, option_to_list}
use Rattle.std.specs.List.{list_all}
use Rattle.pool_base.specs.declared.backend_id.BackendId.{BackendId}
use Rattle.backend_trait.specs.declared.request.Request.{Request}
use Rattle.backend_trait.specs.declared.request.Request.TheVariants as requests
use Rattle.backend_trait.specs.declared.answer.Answer.{Answer}
use Rattle.backend_trait.specs.declared.answer.Answer.TheVariants as answers
use Rattle.session_machine.specs.declared.work.Class.{Class}
use Rattle.session_machine.specs.declared.work.Class.TheVariants as classes
use Rattle.session_machine.specs.declared.work.Work.{Work}
use Rattle.session_machine.specs.declared.machine.Heard.{Heard}
use Rattle.session_machine.specs.declared.machine.Stage.{Stage}
use Rattle.session_machine.specs.declared.machine.Stage.TheVariants.{Opening, Reading, Running, Locking, Inserting, Committing, Closing, RollingBack}
use Rattle.session_machine.specs.declared.machine.Point.{Point}
use Rattle.session_machine.specs.declared.machine.Point.TheVariants.{Resting, EnterDue, LookDue, PostDue, Waiting, LostDue, SplitDue, ChooseDue, ShowDue, LeaveSnapshotDue, UnwindDue, EnterCommitDue, LeaveCommitDue, FinishDue, ReplyDue, EndDue}
use Rattle.session_machine.specs.declared.machine.Session.{Session}
use Rattle.session_machine.specs.declared.machine.Machine.{Machine}
use Rattle.session_machine.specs.Answers.{all_backends, has_answered, has_refused, is_open, next_of, reader}
use Rattle.session_machine.specs.Rules.{primary, request_of, kind_of, ticket_of}
use Rattle.session_ahead.specs.declared.post.Post.{Post}

abbrev pub post_of : Request → BackendId → Post
post_of request b = record { b = b; request = request }

-- Behind the backend that is asked.

-- attached, without an answer, and another than the one that is asked
abbrev pub is_open_but : ℕ → List Heard → BackendId → BackendId → Bool
is_open_but attached heard b c = is_open attached heard c && not (c.number == b.number)

abbrev pub open_but : Session → BackendId → List BackendId
open_but session b = filter (is_open_but session.view.attached.bits session.heard b) all_backends

-- the primary has answered, and has not refused: what stops at its refusal goes on
abbrev pub is_past_at : List Heard → Option BackendId → Bool
is_past_at heard None = false
is_past_at heard (Some b) = has_answered heard b && not (has_refused heard b)

abbrev pub is_past : Session → Bool
is_past session = is_past_at session.heard (primary session)

-- the others are asked the same, whatever the one that is asked answers. A serial insert has its first post behind it: a session
-- that leaves before draws no number anywhere
abbrev pub is_fixed : Session → Stage → Bool
is_fixed session (Opening work) = true
is_fixed session (Reading work ticket) = false
is_fixed session (Running work) = is_past session
is_fixed session (Locking work table) = is_past session
is_fixed session (Inserting work posted) = posted
is_fixed session Committing = true
is_fixed session Closing = true
is_fixed session (RollingBack ending) = true

abbrev pub fixed : Session → Stage → BackendId → List BackendId
fixed session stage b = if is_fixed session stage then open_but session b else []

-- The first post of a statement that has its snapshot: a read's at its reader, another's at the primary.

abbrev pub first_read : Session → Work → Option Post
first_read session work =
    option_map (post_of (requests.Run work.statement))
    (reader session.policy session.view.attached.bits (ticket_of session session.policy.per_statement))

abbrev pub first_as : Session → Work → Class → Option Post
first_as session work classes.Read = first_read session work
first_as session work classes.LockingRead = option_map (post_of (requests.Run work.statement)) (primary session)
first_as session work (classes.Write verb) = option_map (post_of (requests.Run work.statement)) (primary session)
first_as session work (classes.SerialInsert table) = option_map (post_of (requests.Lock table)) (primary session)

abbrev pub first_of : Session → Work → Option Post
first_of session work = first_as session work work.class

abbrev pub is_began : Answer → Bool
is_began answers.Began = true
is_began (answers.Rows rows) = false
is_began (answers.Count n) = false
is_began answers.Locked = false
is_began answers.Done = false
is_began (answers.Serial n) = false
is_began (answers.Refused code) = false

abbrev pub begun_there : Heard → Bool
begun_there h = is_began h.answer

-- it comes behind the snapshots, while none is refused
abbrev pub statement_behind : Session → Stage → Option Post
statement_behind session (Opening work) = if list_all begun_there session.heard then first_of session work else None
statement_behind session (Reading work ticket) = None
statement_behind session (Running work) = None
statement_behind session (Locking work table) = None
statement_behind session (Inserting work posted) = None
statement_behind session Committing = None
statement_behind session Closing = None
statement_behind session (RollingBack ending) = None

abbrev pub behind : Session → Stage → BackendId → List Post
behind session stage b = map (post_of (request_of stage)) (fixed session stage b) ++ option_to_list (statement_behind session stage)

-- The next one that is asked, and what is behind it; nobody: the chain is at its end.

abbrev pub from : Session → Stage → BackendId → List Post
from session stage b = post_of (request_of stage) b ∷ behind session stage b

abbrev pub from_next : Session → Stage → Option BackendId → List Post
from_next session stage (Some b) = from session stage b
from_next session stage None = option_to_list (statement_behind session stage)

-- at a Look the next post is coming, but a read's, which may go elsewhere, and the first of a serial insert
abbrev pub is_held : Stage → Bool
is_held (Opening work) = false
is_held (Reading work ticket) = true
is_held (Running work) = false
is_held (Locking work table) = false
is_held (Inserting work posted) = not posted
is_held Committing = false
is_held Closing = false
is_held (RollingBack ending) = false

abbrev pub at_look : Session → Stage → List Post
at_look session stage =
    if is_held stage then []
    else from_next session stage (next_of (kind_of stage) session.view.attached.bits session.heard)

-- What is coming.

abbrev pub coming_at : Session → Point → List Post
coming_at session Resting = []
coming_at session (EnterDue work) = []
coming_at session (LookDue stage) = at_look session stage
coming_at session (PostDue stage b) = from session stage b
coming_at session (Waiting stage b) = behind session stage b
coming_at session (LostDue stage b before after) = behind session stage b
coming_at session (SplitDue stage best own among more) = []
coming_at session (ChooseDue work) = option_to_list (first_read session work)
coming_at session ShowDue = []
coming_at session (LeaveSnapshotDue work) = option_to_list (first_of session work)
coming_at session (UnwindDue ending) = []
coming_at session EnterCommitDue = []
coming_at session (LeaveCommitDue ending) = []
coming_at session (FinishDue ending) = []
coming_at session (ReplyDue outcome) = []
coming_at session EndDue = []

abbrev pub coming : Machine → List Post
coming m = coming_at m.session m.point

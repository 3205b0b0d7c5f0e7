-- What holds wherever a session stands: each backend has answered its chain once at most, the one that is asked has not
-- answered, rows stand only among the answers to a SELECT, and the statement under way has its own class.
use Rattle.std.specs.Prelude.{◌≡◌, Bool, true, false, ◌&&◌, ◌==◌, not, List, [], ◌∷◌, ⊤}
use Rattle.catalogue.specs.declared.checked.CheckedBody.{CheckedBody}
use Rattle.catalogue.specs.declared.checked.CheckedBody.TheVariants as body
use Rattle.classifier.specs.Classes.{tables_mask}
use Rattle.backend_trait.specs.declared.request.Request.{Request}
use Rattle.backend_trait.specs.declared.request.Request.TheVariants as requests
use Rattle.backend_trait.specs.declared.answer.Answer.{Answer}
use Rattle.backend_trait.specs.declared.answer.Answer.TheVariants as answers
use Rattle.session_machine.specs.declared.machine.Heard.{Heard}
use Rattle.session_machine.specs.declared.machine.Stage.{Stage}
use Rattle.session_machine.specs.declared.machine.Stage.TheVariants.{Opening, Reading, Running, Locking, Inserting, Committing, Closing, RollingBack}
use Rattle.session_machine.specs.declared.machine.Point.{Point}
use Rattle.session_machine.specs.declared.machine.Point.TheVariants.{Resting, EnterDue, LookDue, PostDue, Waiting, LostDue, SplitDue, ChooseDue, ShowDue, LeaveSnapshotDue, UnwindDue, EnterCommitDue, LeaveCommitDue, FinishDue, ReplyDue, EndDue}
use Rattle.session_machine.specs.declared.machine.Machine.{Machine}
use Rattle.session_orders.specs.declared.order.OrderBody.{OrderBody}
use Rattle.session_orders.specs.declared.order.OrderBody.TheVariants as orders
use Rattle.session_machine.specs.Rules.{request_of, is_run}
use Rattle.session_machine.specs.declared.work.Class.{Class}
use Rattle.session_machine.specs.declared.work.Work.{Work}
use Rattle.session_machine.specs.contracts.work.ClassPartialEq.TheImpl as class_eq
use Rattle.session_machine.specs.Classes.{class_in}
use Rattle.session_machine.specs.Answers.{has_answered}

-- no backend has answered twice
abbrev pub AreOne : List Heard → Type 0
AreOne [] = ⊤
AreOne (h ∷ hs) = (has_answered hs h.b ≡ false) × AreOne hs

-- the backend that is asked has not answered
abbrev pub IsFresh : List Heard → Point → Type 0
IsFresh heard Resting = ⊤
IsFresh heard (EnterDue work) = ⊤
IsFresh heard (LookDue stage) = ⊤
IsFresh heard (PostDue stage b) = has_answered heard b ≡ false
IsFresh heard (Waiting stage b) = has_answered heard b ≡ false
IsFresh heard (LostDue stage b before after) = ⊤
IsFresh heard (SplitDue stage best own among more) = ⊤
IsFresh heard (ChooseDue work) = ⊤
IsFresh heard ShowDue = ⊤
IsFresh heard (LeaveSnapshotDue work) = ⊤
IsFresh heard (UnwindDue ending) = ⊤
IsFresh heard EnterCommitDue = ⊤
IsFresh heard (LeaveCommitDue ending) = ⊤
IsFresh heard (FinishDue ending) = ⊤
IsFresh heard (ReplyDue outcome) = ⊤
IsFresh heard EndDue = ⊤

-- no rows: a copy takes no memory
abbrev pub is_plain : Answer → Bool
is_plain answers.Began = true
is_plain (answers.Rows rows) = false
is_plain (answers.Count n) = true
is_plain answers.Locked = true
is_plain answers.Done = true
is_plain (answers.Serial n) = true
is_plain (answers.Refused code) = true

abbrev pub are_plain : List Heard → Bool
are_plain [] = true
are_plain (h ∷ hs) = is_plain h.answer && are_plain hs

abbrev pub is_read : CheckedBody → Bool
is_read (body.Read read) = true
is_read (body.Insert insert) = false
is_read (body.Change change) = false
is_read (body.Remove remove) = false

abbrev pub is_select : Request → Bool
is_select requests.TakeSnapshot = false
is_select (requests.Run checked) = is_read checked.body
is_select (requests.Lock table) = false
is_select requests.Commit = false
is_select requests.Rollback = false
is_select (requests.ReadSerial table) = false
is_select (requests.SetSerial table n) = false

-- only a SELECT has rows among its answers
abbrev pub ArePlain : Stage → List Heard → Type 0
ArePlain stage heard = is_select (request_of stage) ≡ false → are_plain heard ≡ true

abbrev pub FitsStage : List Heard → Point → Type 0
FitsStage heard Resting = ⊤
FitsStage heard (EnterDue work) = ⊤
FitsStage heard (LookDue stage) = ArePlain stage heard
FitsStage heard (PostDue stage b) = ArePlain stage heard
FitsStage heard (Waiting stage b) = ArePlain stage heard
FitsStage heard (LostDue stage b before after) = ArePlain stage heard
FitsStage heard (SplitDue stage best own among more) = ArePlain stage heard
FitsStage heard (ChooseDue work) = ⊤
FitsStage heard ShowDue = ⊤
FitsStage heard (LeaveSnapshotDue work) = ⊤
FitsStage heard (UnwindDue ending) = ⊤
FitsStage heard EnterCommitDue = ⊤
FitsStage heard (LeaveCommitDue ending) = ⊤
FitsStage heard (FinishDue ending) = ⊤
FitsStage heard (ReplyDue outcome) = ⊤
FitsStage heard EndDue = ⊤

abbrev pub IsSound : Machine → Type 0
IsSound m = AreOne m.session.heard × (IsFresh m.session.heard m.point × FitsStage m.session.heard m.point)

-- what is due there wants memory: the copy of a statement that is posted, and the copies of the rows of a SELECT that differ
abbrev pub wants_memory : Point → Bool
wants_memory Resting = false
wants_memory (EnterDue work) = false
wants_memory (LookDue stage) = false
wants_memory (PostDue stage b) = is_run (request_of stage)
wants_memory (Waiting stage b) = false
wants_memory (LostDue stage b before after) = false
wants_memory (SplitDue stage best own among more) = is_select (request_of stage)
wants_memory (ChooseDue work) = false
wants_memory ShowDue = false
wants_memory (LeaveSnapshotDue work) = false
wants_memory (UnwindDue ending) = false
wants_memory EnterCommitDue = false
wants_memory (LeaveCommitDue ending) = false
wants_memory (FinishDue ending) = false
wants_memory (ReplyDue outcome) = false
wants_memory EndDue = false

-- a request wants memory for the copy of a statement, a cause where rows stand among the answers that differ
abbrev pub WantsCopies : List Heard → Point → Type 0
WantsCopies heard Resting = ⊥
WantsCopies heard (EnterDue work) = ⊥
WantsCopies heard (LookDue stage) = ⊥
WantsCopies heard (PostDue stage b) = is_run (request_of stage) ≡ true
WantsCopies heard (Waiting stage b) = ⊥
WantsCopies heard (LostDue stage b before after) = ⊥
WantsCopies heard (SplitDue stage best own among more) = are_plain heard ≡ false
WantsCopies heard (ChooseDue work) = ⊥
WantsCopies heard ShowDue = ⊥
WantsCopies heard (LeaveSnapshotDue work) = ⊥
WantsCopies heard (UnwindDue ending) = ⊥
WantsCopies heard EnterCommitDue = ⊥
WantsCopies heard (LeaveCommitDue ending) = ⊥
WantsCopies heard (FinishDue ending) = ⊥
WantsCopies heard (ReplyDue outcome) = ⊥
WantsCopies heard EndDue = ⊥

-- a serial insert is under way from its first post on, and has to go on
abbrev pub is_serial_posted : Point → Bool
is_serial_posted (PostDue (Inserting work posted) b) = posted
is_serial_posted point = false

abbrev pub is_statement : OrderBody → Bool
is_statement (orders.Statement checked) = true
is_statement order = false

-- The statement under way has its own class and its own tables: so that of a serial insert is no SELECT.

abbrev pub same_class : Class → Class → Bool
same_class = (class_eq.ghosts).eq

abbrev pub is_classed : Work → Bool
is_classed work = same_class (class_in work.statement.body) work.class && (tables_mask work.statement.body == work.tables)

abbrev pub is_classed_at : Stage → Bool
is_classed_at (Opening work) = is_classed work
is_classed_at (Reading work ticket) = true
is_classed_at (Running work) = true
is_classed_at (Locking work table) = not (is_select (requests.Run work.statement))
is_classed_at (Inserting work posted) = not (is_select (requests.Run work.statement))
is_classed_at Committing = true
is_classed_at Closing = true
is_classed_at (RollingBack ending) = true

abbrev pub is_classed_in : Point → Bool
is_classed_in Resting = true
is_classed_in (EnterDue work) = is_classed work
is_classed_in (LookDue stage) = is_classed_at stage
is_classed_in (PostDue stage b) = is_classed_at stage
is_classed_in (Waiting stage b) = is_classed_at stage
is_classed_in (LostDue stage b before after) = is_classed_at stage
is_classed_in (SplitDue stage best own among more) = is_classed_at stage
is_classed_in (ChooseDue work) = true
is_classed_in ShowDue = true
is_classed_in (LeaveSnapshotDue work) = is_classed work
is_classed_in (UnwindDue ending) = true
is_classed_in EnterCommitDue = true
is_classed_in (LeaveCommitDue ending) = true
is_classed_in (FinishDue ending) = true
is_classed_in (ReplyDue outcome) = true
is_classed_in EndDue = true

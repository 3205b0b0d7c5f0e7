-- The order under way of a session is that of its point, and the block is still as it stood when the order came.
use Rattle.std.specs.Prelude.{◌≡◌, ℕ, Bool, true, false, List, Option, Some, None}
use Rattle.schema.specs.declared.catalogue.TableDef.{TableDef}
use Rattle.catalogue.specs.declared.checked.Checked.{Checked}
use Rattle.classifier.specs.Classes.{tables_mask}
use Rattle.backend_trait.specs.Runnable.{IsRunnable}
use Rattle.session_machine.specs.declared.work.Class.{Class}
use Rattle.session_machine.specs.declared.work.Class.TheVariants as classes
use Rattle.session_machine.specs.declared.work.Work.{Work}
use Rattle.session_orders.specs.declared.order.OrderBody.{OrderBody}
use Rattle.session_orders.specs.declared.order.OrderBody.TheVariants as orders
use Rattle.session_machine.specs.declared.status.Status.{Status}
use Rattle.session_machine.specs.declared.status.Status.TheVariants.{Idle, InBlock, Failed}
use Rattle.session_orders.specs.declared.outcome.Outcome.{Outcome}
use Rattle.session_orders.specs.declared.outcome.Outcome.TheVariants as outcomes
use Rattle.session_machine.specs.declared.machine.Ending.{Ending}
use Rattle.session_machine.specs.declared.machine.Ending.TheVariants as endings
use Rattle.session_machine.specs.declared.machine.Stage.{Stage}
use Rattle.session_machine.specs.declared.machine.Stage.TheVariants.{Opening, Reading, Running, Locking, Inserting, Committing, Closing, RollingBack}
use Rattle.session_machine.specs.declared.machine.Point.{Point}
use Rattle.session_machine.specs.declared.machine.Point.TheVariants.{Resting, EnterDue, LookDue, PostDue, Waiting, LostDue, SplitDue, ChooseDue, ShowDue, LeaveSnapshotDue, UnwindDue, EnterCommitDue, LeaveCommitDue, FinishDue, ReplyDue, EndDue}
use Rattle.session_machine.specs.declared.machine.Session.{Session}
use Rattle.session_machine.specs.Classes.{class_in, work_in}
use Rattle.session_machine.specs.Rules.{rewritten}
use Rattle.one_copy_model.specs.Tracking.{Told}

-- that statement, as it is written at its moment
pub record IsStatement (session : Session) (told : Told) (work : Work) : Type 0 where
  pub checked : Checked
  pub body : told.order.body ≡ orders.Statement checked
  pub written : rewritten told.moment (work_in checked) ≡ Some work
  pub status : session.status ≡ told.status

-- the end of a transaction that was open: a COMMIT in a block, the end of a text outside of one
abbrev pub Commits : Status → OrderBody → Type 0
Commits Idle body = body ≡ orders.Settle
Commits InBlock body = body ≡ orders.Commit
Commits Failed body = ⊥

pub record IsCommit (session : Session) (told : Told) : Type 0 where
  pub body : Commits told.status told.order.body
  pub status : session.status ≡ told.status
  pub begun : told.begun ≡ true

abbrev pub OrderIn : Session → Stage → Told → Type 0
OrderIn session (Opening work) told = IsStatement session told work
OrderIn session (Reading work ticket) told = IsStatement session told work
OrderIn session (Running work) told = IsStatement session told work
OrderIn session (Locking work table) told = IsStatement session told work
OrderIn session (Inserting work posted) told = IsStatement session told work
OrderIn session Committing told = IsCommit session told
OrderIn session Closing told = IsCommit session told
OrderIn session (RollingBack ending) told = Unit {0}

-- of an order that is decided its reply says the rest
abbrev pub OrderAt : Session → Point → Told → Type 0
OrderAt session Resting told = Unit {0}
OrderAt session (EnterDue work) told = IsStatement session told work
OrderAt session (LookDue stage) told = OrderIn session stage told
OrderAt session (PostDue stage b) told = OrderIn session stage told
OrderAt session (Waiting stage b) told = OrderIn session stage told
OrderAt session (LostDue stage b before more) told = OrderIn session stage told
OrderAt session (SplitDue stage best own among more) told = OrderIn session stage told
OrderAt session (ChooseDue work) told = IsStatement session told work
OrderAt session ShowDue told = told.order.body ≡ orders.ShowNodes
OrderAt session (LeaveSnapshotDue work) told = IsStatement session told work
OrderAt session (UnwindDue ending) told = Unit {0}
OrderAt session EnterCommitDue told = IsCommit session told
OrderAt session (LeaveCommitDue ending) told = Unit {0}
OrderAt session (FinishDue ending) told = Unit {0}
OrderAt session (ReplyDue outcome) told = Unit {0}
OrderAt session EndDue told = Unit {0}

-- What is to be replied, where it is decided: a rollback under way keeps its reply to its end.

abbrev pub reply_of : Ending → Option Outcome
reply_of (endings.Replies outcome) = Some outcome
reply_of endings.Leaves = None

abbrev pub reply_of_stage : Stage → Option Outcome
reply_of_stage (Opening work) = None
reply_of_stage (Reading work ticket) = None
reply_of_stage (Running work) = None
reply_of_stage (Locking work table) = None
reply_of_stage (Inserting work posted) = None
reply_of_stage Committing = None
reply_of_stage Closing = None
reply_of_stage (RollingBack ending) = reply_of ending

abbrev pub reply_in : Point → Option Outcome
reply_in Resting = None
reply_in (EnterDue work) = None
reply_in (LookDue stage) = reply_of_stage stage
reply_in (PostDue stage b) = reply_of_stage stage
reply_in (Waiting stage b) = reply_of_stage stage
reply_in (LostDue stage b before more) = reply_of_stage stage
reply_in (SplitDue stage best own among more) = reply_of_stage stage
reply_in (ChooseDue work) = None
reply_in ShowDue = None
reply_in (LeaveSnapshotDue work) = None
reply_in (UnwindDue ending) = reply_of ending
reply_in EnterCommitDue = None
reply_in (LeaveCommitDue ending) = reply_of ending
reply_in (FinishDue ending) = reply_of ending
reply_in (ReplyDue outcome) = Some outcome
reply_in EndDue = None

-- the chain of a commit, with changes or without
abbrev pub is_of_commit : Option Stage → Bool
is_of_commit (Some Committing) = true
is_of_commit (Some Closing) = true
is_of_commit stage = false

-- The work of a point can be run on the tables, has the class and the tables of its statement, and goes the way of its class: a serial
-- insert by its lock, a read to one backend. What is to be replied behind an ending is no list of backends.

pub record IsClassed (tables : List TableDef) (work : Work) : Type 0 where
  pub class : work.class ≡ class_in work.statement.body
  pub written : work.tables ≡ tables_mask work.statement.body
  pub runnable : IsRunnable tables work.statement

abbrev pub runs_at_once : Class → Bool
runs_at_once classes.Read = false
runs_at_once classes.LockingRead = true
runs_at_once (classes.Write verb) = true
runs_at_once (classes.SerialInsert table) = false

abbrev pub lists : Outcome → Bool
lists (outcomes.Nodes set) = true
lists outcome = false

abbrev pub ends_listing : Ending → Bool
ends_listing (endings.Replies outcome) = lists outcome
ends_listing endings.Leaves = false

abbrev pub IsClassedIn : List TableDef → Stage → Type 0
IsClassedIn tables (Opening work) = IsClassed tables work
IsClassedIn tables (Reading work ticket) = IsClassed tables work × (work.class ≡ classes.Read)
IsClassedIn tables (Running work) = IsClassed tables work × (runs_at_once work.class ≡ true)
IsClassedIn tables (Locking work table) = IsClassed tables work × (work.class ≡ classes.SerialInsert table)
IsClassedIn tables (Inserting work posted) = IsClassed tables work × ((table : ℕ) × (work.class ≡ classes.SerialInsert table))
IsClassedIn tables Committing = Unit {0}
IsClassedIn tables Closing = Unit {0}
IsClassedIn tables (RollingBack ending) = ends_listing ending ≡ false

abbrev pub IsClassedAt : List TableDef → Point → Type 0
IsClassedAt tables Resting = Unit {0}
IsClassedAt tables (EnterDue work) = IsClassed tables work
IsClassedAt tables (LookDue stage) = IsClassedIn tables stage
IsClassedAt tables (PostDue stage b) = IsClassedIn tables stage
IsClassedAt tables (Waiting stage b) = IsClassedIn tables stage
IsClassedAt tables (LostDue stage b before more) = IsClassedIn tables stage
IsClassedAt tables (SplitDue stage best own among more) = IsClassedIn tables stage
IsClassedAt tables (ChooseDue work) = IsClassed tables work × (work.class ≡ classes.Read)
IsClassedAt tables ShowDue = Unit {0}
IsClassedAt tables (LeaveSnapshotDue work) = IsClassed tables work
IsClassedAt tables (UnwindDue ending) = ends_listing ending ≡ false
IsClassedAt tables EnterCommitDue = Unit {0}
IsClassedAt tables (LeaveCommitDue ending) = ends_listing ending ≡ false
IsClassedAt tables (FinishDue ending) = ends_listing ending ≡ false
IsClassedAt tables (ReplyDue outcome) = Unit {0}
IsClassedAt tables EndDue = Unit {0}

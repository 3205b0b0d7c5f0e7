-- The statement that a session has under way can be run, and each store has the tables of the world.
use Rattle.std.specs.Prelude.{◌≡◌, ℕ, List, Option, Some, None}
use Rattle.schema.specs.declared.catalogue.TableDef.{TableDef}
use Rattle.backend_trait.specs.declared.request.Request.{Request}
use Rattle.backend_trait.specs.declared.request.Request.TheVariants as requests
use Rattle.plain_store.specs.Kept.{IsKept}
use Rattle.session_machine.specs.declared.action.SessionEvent.{SessionEvent}
use Rattle.session_machine.specs.declared.action.SessionEvent.TheVariants as events
use Rattle.session_machine.specs.declared.machine.Stage.{Stage}
use Rattle.session_machine.specs.declared.machine.Stage.TheVariants.{Opening, Reading, Running, Locking, Inserting, Committing, Closing, RollingBack}
use Rattle.session_machine.specs.declared.machine.Point.{Point}
use Rattle.session_machine.specs.declared.machine.Point.TheVariants.{Resting, EnterDue, LookDue, PostDue, Waiting, LostDue, SplitDue, ChooseDue, ShowDue, LeaveSnapshotDue, UnwindDue, EnterCommitDue, LeaveCommitDue, FinishDue, ReplyDue, EndDue}
use Rattle.one_copy_model.specs.World.{World}

-- the run of the statement that is under way, where there is one
abbrev pub run_at : Stage → Option Request
run_at (Opening work) = Some (requests.Run work.statement)
run_at (Reading work ticket) = Some (requests.Run work.statement)
run_at (Running work) = Some (requests.Run work.statement)
run_at (Locking work table) = Some (requests.Run work.statement)
run_at (Inserting work posted) = Some (requests.Run work.statement)
run_at Committing = None
run_at Closing = None
run_at (RollingBack ending) = None

abbrev pub run_in : Point → Option Request
run_in Resting = None
run_in (EnterDue work) = Some (requests.Run work.statement)
run_in (LookDue stage) = run_at stage
run_in (PostDue stage b) = run_at stage
run_in (Waiting stage b) = run_at stage
run_in (LostDue stage b before more) = run_at stage
run_in (SplitDue stage best own among more) = run_at stage
run_in (ChooseDue work) = Some (requests.Run work.statement)
run_in ShowDue = None
run_in (LeaveSnapshotDue work) = Some (requests.Run work.statement)
run_in (UnwindDue ending) = None
run_in EnterCommitDue = None
run_in (LeaveCommitDue ending) = None
run_in (FinishDue ending) = None
run_in (ReplyDue outcome) = None
run_in EndDue = None

-- it can be run
abbrev pub CanRun : List TableDef → Point → Type 0
CanRun tables point = IsKept tables (run_in point)

pub record IsFit (w : World) : Type 0 where
  pub under_way : (s : ℕ) → CanRun w.tables (w.machine s).point
  pub stores : (b : ℕ) → (w.store b).tables ≡ w.tables

-- what is posted at a backend can be run there, if it is a statement
abbrev pub IsPostKept : World → SessionEvent → Type 0
IsPostKept w (events.Posted b request) = IsKept (w.store b.number).tables (Some request)
IsPostKept w event = Unit {0}

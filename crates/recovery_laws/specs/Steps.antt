-- Lists of steps that are fit, as every list is; and what holds along them: each moment is one of a single store.
use Rattle.std.specs.Prelude.{List, [], ◌∷◌, Option, Some, None}
use Rattle.pool_base.specs.declared.gate_call.GateCall.TheVariants as calls
use Rattle.pool_base.specs.declared.gate_call.GateAnswer.TheVariants.{Granted}
use Rattle.schema.specs.declared.catalogue.TableDef.{TableDef}
use Rattle.backend_trait.specs.declared.request.Request.{Request}
use Rattle.backend_trait.specs.declared.request.Request.TheVariants as requests
use Rattle.backend_trait.specs.Runnable.{IsRunnable}
use Rattle.session_machine.specs.declared.action.SessionEvent.{SessionEvent}
use Rattle.session_machine.specs.declared.action.SessionEvent.TheVariants as events
use Rattle.one_copy_model.specs.Tracking.{Tracked}
use Rattle.one_copy_model.specs.Replies.{RepliesRight, Acknowledged}
use Rattle.one_copy_model.specs.Invariant.{Invariant}
use Rattle.recovery_laws.specs.declared.step.Step.{Step}
use Rattle.recovery_laws.specs.declared.step.Step.TheVariants.{Serve, Recover, Answer as Answers}
use Rattle.recovery_laws.specs.Pool.{Pool, world_of, after}
use Rattle.recovery_laws.specs.Ready.{IsReady}

-- the target is ready where it is attached
abbrev pub FitsCall : Tracked → SessionEvent → Type 0
FitsCall t (events.Called (calls.Attach b) (Granted view)) = IsReady t b.number
FitsCall t event = Unit {0}

-- a statement that a recovery asks for can be run on the tables
abbrev pub RunsIn : List TableDef → Request → Type 0
RunsIn tables (requests.Run checked) = IsRunnable tables checked
RunsIn tables request = Unit {0}

abbrev pub FitsAnswer : Pool → Option Request → Type 0
FitsAnswer p None = Unit {0}
FitsAnswer p (Some request) = RunsIn (world_of p).tables request

abbrev pub IsFit : Pool → Step → Type 0
IsFit p (Serve event) = Unit {0}
IsFit p (Recover s event) = FitsCall p.tracked event
IsFit p (Answers s b answer) = FitsAnswer p (p.asked s.number b.number)

abbrev pub AreFit : Pool → List Step → Type 0
AreFit p [] = Unit {0}
AreFit p (e ∷ es) = IsFit p e × AreFit (after p e) es

-- At every step: the invariant holds, each reply to a session is right, and each commit that it acknowledges is done.

abbrev pub IsRightAt : Pool → Step → Type 0
IsRightAt p (Serve event) = RepliesRight p.tracked event × Acknowledged p.tracked event
IsRightAt p (Recover s event) = Unit {0}
IsRightAt p (Answers s b answer) = Unit {0}

abbrev pub AllHold : Pool → List Step → Type 0
AllHold p [] = Invariant p.tracked
AllHold p (e ∷ es) = Invariant p.tracked × IsRightAt p e × AllHold (after p e) es

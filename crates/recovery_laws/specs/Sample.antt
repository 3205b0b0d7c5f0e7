-- A recovery from its order to its reply: backend 1 is brought in, with backend 0 as its source, over a schema without tables.
use Rattle.std.specs.Prelude.{pos, List, [], ◌∷◌}
use lib.Dec.{lit<}
use Rattle.pool_base.specs.declared.session_id.SessionId.{SessionId}
use Rattle.pool_base.specs.declared.backend_id.BackendId.{BackendId}
use Rattle.pool_base.specs.declared.backend_set.BackendSet.{BackendSet}
use Rattle.pool_base.specs.declared.gate_call.View.{View}
use Rattle.pool_base.specs.declared.gate_call.GateCall.TheVariants as calls
use Rattle.pool_base.specs.declared.gate_call.GateAnswer.TheVariants.{Seen, Granted}
use Rattle.schema.specs.Allowed.{AreAllowed}
use Rattle.backend_trait.specs.declared.request.Request.{Request}
use Rattle.backend_trait.specs.declared.request.Request.TheVariants as requests
use Rattle.backend_trait.specs.declared.answer.Answer.{Answer}
use Rattle.backend_trait.specs.declared.answer.Answer.TheVariants as answers
use Rattle.session_orders.specs.declared.order.OrderBody.TheVariants as orders
use Rattle.session_orders.specs.declared.outcome.Tag.TheVariants as tags
use Rattle.session_machine.specs.declared.status.Status.TheVariants.{Idle}
use Rattle.session_machine.specs.declared.action.SessionEvent.TheVariants as events
use Rattle.session_machine.specs.Rules.{done_with}
use Rattle.online_recovery.specs.declared.layout.Layout.{Layout}
use Rattle.one_copy_model.specs.Numbers.{session_of}
use Rattle.recovery_laws.specs.declared.step.Step.{Step}
use Rattle.recovery_laws.specs.declared.step.Step.TheVariants.{Recover, Answer as Answers}

abbrev pub of_none : ∥ AreAllowed [] ∥₁ → Layout
of_none allowed = record { nodes = 2; tables = []; allowed = allowed }

abbrev pub first_alone : BackendSet
first_alone = record { bits = 1 }

abbrev pub session : SessionId
session = session_of 1

abbrev pub source : BackendId
source = record { number = 0; below_8 = lit< tt }

abbrev pub target : BackendId
target = record { number = 1; below_8 = lit< tt }

-- before the target is attached, and behind that
abbrev pub before : View
before = record { attached = record { bits = 1 }; epoch = 0; touched = 0; done = 0 }

abbrev pub behind : View
behind = record { attached = record { bits = 3 }; epoch = 1; touched = 0; done = 0 }

abbrev pub look : Step
look = Recover session (events.Called calls.Look (Seen before))

-- a backend is asked, and answers
abbrev pub asked : BackendId → Request → Answer → List Step → List Step
asked b request answer steps =
    Recover session (events.Posted b request) ∷ Answers session b answer ∷ Recover session (events.Taken b answer) ∷ steps

-- stage one, and what follows
abbrev pub begun_then : List Step → List Step
begun_then steps =
    Recover session (events.Ordered (record { moment = pos 0; body = orders.Recover 1 }))
    ∷ look
    ∷ Recover session (events.Called calls.StartCopy (Granted before))
    ∷ Recover session (events.Swapped target)
    ∷ Recover session (events.Called calls.EnterSnapshot (Granted before))
    ∷ asked source requests.TakeSnapshot answers.Began (look
    ∷ Recover session (events.Called calls.LeaveSnapshot (Granted before))
    ∷ asked target requests.TakeSnapshot answers.Began
    (asked target requests.Commit answers.Done
    (asked source requests.Rollback answers.Done (look
    ∷ Recover session (events.Called calls.Finish (Granted before))
    ∷ steps))))

abbrev pub attaching : List Step
attaching =
    Recover session (events.Called (calls.Attach target) (Granted behind))
    ∷ Recover session (events.Called calls.LeaveQuiet (Granted behind))
    ∷ Recover session (events.Replied (done_with tags.Recover) Idle)
    ∷ []

abbrev pub one_recovery : List Step
one_recovery =
    begun_then (Recover session (events.Called calls.AskQuiet (Granted before))
    ∷ Recover session (events.Called calls.EnterQuiet (Granted before))
    ∷ attaching)

-- the target is attached behind stage one
abbrev pub too_early : List Step
too_early = begun_then attaching

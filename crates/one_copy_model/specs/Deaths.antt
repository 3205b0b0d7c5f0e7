-- Deaths: which transactions of the single run have died at an event, and of what.
use Rattle.std.specs.Prelude.{ℕ, zero, suc, Bool, true, false, not, ◌&&◌, ◌==◌, if◌then◌else◌, List, [], ◌∷◌, Option, Some, None}
use Rattle.pool_base.specs.Sets.{has}
use Rattle.pool_base.specs.declared.code.Code.{Code}
use Rattle.pool_base.specs.declared.backend_id.BackendId.{BackendId}
use Rattle.backend_trait.specs.declared.request.Request.TheVariants as requests
use Rattle.backend_trait.specs.declared.answer.Answer.{Answer}
use Rattle.backend_trait.specs.declared.answer.Answer.TheVariants as answers
use Rattle.backend_trait.specs.Store.{Transaction, Absent, Alive, Dead}
use Rattle.session_machine.specs.declared.work.Work.{Work}
use Rattle.session_machine.specs.declared.machine.Heard.{Heard}
use Rattle.session_machine.specs.declared.machine.Stage.{Stage}
use Rattle.session_machine.specs.declared.machine.Stage.TheVariants.{Inserting}
use Rattle.session_machine.specs.declared.machine.Point.{Point}
use Rattle.session_machine.specs.declared.machine.Point.TheVariants.{Resting, EnterDue, LookDue, PostDue, Waiting, LostDue, SplitDue, ChooseDue, ShowDue, LeaveSnapshotDue, UnwindDue, EnterCommitDue, LeaveCommitDue, FinishDue, ReplyDue, EndDue}
use Rattle.session_machine.specs.Answers.{lowest}
use Rattle.session_machine.specs.Rules.{refusal_of}
use Rattle.one_copy_model.specs.declared.deed.Deed.{Deed}
use Rattle.one_copy_model.specs.declared.deed.Deed.TheVariants.{Asks, Gets, Falls}
use Rattle.one_copy_model.specs.declared.deed.Entry.{Entry}
use Rattle.one_copy_model.specs.Numbers.{some_below}
use Rattle.one_copy_model.specs.SingleRun.{store_after}
use Rattle.one_copy_model.specs.World.{World}

abbrev pub is_live : Transaction → Bool
is_live Absent = false
is_live (Alive t) = true
is_live Dead = false

-- a session's transaction is alive at some attached backend, lost or not
abbrev pub is_alive_at : World → ℕ → ℕ → Bool
is_alive_at w s b = has w.gate.attached.bits b && is_live ((w.store b).transaction s)

unfoldable pub is_alive : World → ℕ → Bool
is_alive w s = some_below (is_alive_at w s) 8

-- the chain under way, where there is one
abbrev pub stage_at : Point → Option Stage
stage_at (LookDue stage) = Some stage
stage_at (PostDue stage b) = Some stage
stage_at (Waiting stage b) = Some stage
stage_at (LostDue stage b before more) = Some stage
stage_at (SplitDue stage best own among more) = Some stage
stage_at Resting = None
stage_at (EnterDue work) = None
stage_at (ChooseDue work) = None
stage_at ShowDue = None
stage_at (LeaveSnapshotDue work) = None
stage_at (UnwindDue ending) = None
stage_at EnterCommitDue = None
stage_at (LeaveCommitDue ending) = None
stage_at (FinishDue ending) = None
stage_at (ReplyDue outcome) = None
stage_at EndDue = None

-- what a backend has answered in that chain, taken or not
abbrev pub heard_from : List Heard → ℕ → Option Answer
heard_from [] b = None
heard_from (h ∷ hs) b = if h.b.number == b then Some h.answer else heard_from hs b

abbrev pub mail_or : Option Answer → Option Answer → Option Answer
mail_or None heard = heard
mail_or (Some answer) heard = Some answer

abbrev pub answer_from : World → ℕ → ℕ → Option Answer
answer_from w s b = mail_or (w.mail s b) (heard_from (w.machine s).session.heard b)

abbrev pub code_from : Option Answer → Option Code
code_from None = None
code_from (Some answer) = refusal_of answer

abbrev pub code_of_lowest : World → ℕ → Option BackendId → Option Code
code_of_lowest w s None = None
code_of_lowest w s (Some b) = code_from (answer_from w s b.number)

-- a serial insert whose run the lowest attached backend has refused dies of that code, with its lock and its run; every other
-- death is a rollback, until a closing Look takes a code
abbrev pub death_of : Work → Option Code → List Deed
death_of work None = Falls None ∷ []
death_of work (Some code) = Gets answers.Locked ∷ Asks (requests.Run work.statement) ∷ Falls (Some code) ∷ []

abbrev pub death_in : World → ℕ → Option Stage → List Deed
death_in w s (Some (Inserting work posted)) = death_of work (code_of_lowest w s (lowest w.gate.attached.bits))
death_in w s stage = Falls None ∷ []

-- deeds of a session, one after another
abbrev pub recorded : ℕ → List Deed → List Entry → List Entry
recorded s [] history = history
recorded s (deed ∷ deeds) history = recorded s deeds (record { session = s; deed = deed } ∷ history)

-- behind every event: a transaction that is live in the single run and alive at no attached backend has died, by rising number
abbrev pub fell : World → ℕ → List Entry → List Entry
fell w s history =
    if is_live ((store_after w.tables history).transaction s) && not (is_alive w s)
    then recorded s (death_in w s (stage_at (w.machine s).point)) history else history

unfoldable pub fallen : World → List Entry → ℕ → List Entry
fallen w history zero = history
fallen w history (suc s) = fell w s (fallen w history s)

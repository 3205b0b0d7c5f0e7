-- Posts that are due meet their conditions; and what holds beside the invariant of what waits at a backend, and of a closing transaction.
use Rattle.std.specs.Prelude.{◌≡◌, ℕ, true, Option, Some, None}
use Rattle.pool_base.specs.declared.backend_id.BackendId.{BackendId}
use Rattle.backend_trait.specs.declared.request.Request.{Request}
use Rattle.backend_trait.specs.declared.answer.Answer.{Answer}
use Rattle.backend_trait.specs.Store.{Store, MayPost}
use Rattle.session_machine.specs.declared.action.Action.TheVariants as actions
use Rattle.session_machine.specs.declared.machine.Stage.TheVariants.{Closing}
use Rattle.session_machine.specs.declared.machine.Point.{Point}
use Rattle.session_machine.specs.declared.machine.Point.TheVariants.{Waiting, LostDue}
use Rattle.session_machine.specs.declared.machine.Machine.{Machine}
use Rattle.session_machine.specs.Rules.{next_action}
use Rattle.one_copy_model.specs.World.{World, IsPending}
use Rattle.one_copy_model.specs.Deaths.{is_live, stage_at}
use Rattle.one_copy_model.specs.Invariant.{IsHere}
use Rattle.one_copy_model.specs.Own.{told_by, IsIn}

-- the store may be posted the request, and nothing of the session waits there
pub record MeetsPost (st : Store) (s : ℕ) (request : Request) : Type 0 where
  pub may : MayPost st s request
  pub free : st.pending s ≡ None

abbrev pub PostsMeet : World → Type 0
PostsMeet w =
    (s : ℕ) (b : BackendId) (request : Request) → next_action (w.machine s) ≡ actions.Post b request → IsHere w b.number
    → MeetsPost (w.store b.number) s request

-- the backend at which a request of the session may wait: the one whose answer it waits for, also where it has seen its loss
abbrev pub awaited_at : Point → Option ℕ
awaited_at (Waiting stage b) = Some b.number
awaited_at (LostDue stage b before more) = Some b.number
awaited_at point = None

-- of one session: where a commit without changes is under way, its transaction is live at an attached backend that has not answered;
-- and what waits at an attached backend, lost or not, is awaited there
pub record IsAwaited (attached : ℕ) (here : ℕ → Store) (m : Machine) (mail : ℕ → Option Answer) (s : ℕ) : Type 0 where
  pub closing : (b : ℕ) → IsIn attached b → stage_at m.point ≡ Some Closing → told_by m mail b ≡ None → is_live ((here b).transaction s) ≡ true
  pub waiting : (b : ℕ) → IsIn attached b → IsPending (here b) s → awaited_at m.point ≡ Some b

abbrev pub AreAwaited : World → Type 0
AreAwaited w = (s : ℕ) → IsAwaited w.gate.attached.bits w.store (w.machine s) (w.mail s) s

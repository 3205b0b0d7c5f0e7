-- The tests of a backend tell just what stands there.
use Rattle.std.proofs.Common.{◌≡◌, ℕ, Bool, true, refl, sym, ap, ◌∙◌, subst}
use Rattle.std.specs.Prelude.{◌↔◌, ◌&&◌, not, is_some, List, Option, Some, None, Result, Ok, Err, IfOk, IsTrue, slice_get}
use Rattle.schema.specs.declared.catalogue.TableDef.{TableDef}
use Rattle.backend_trait.specs.declared.request.Request.{Request}
use Rattle.backend_trait.specs.declared.answer.Answer.{Answer}
use Rattle.backend_trait.specs.Store.{Pending}
use Rattle.plain_store.specs.Meaning.{request_at, mark_in, pending_of}
use Rattle.backend_trait.proofs.Telling.{Tells, both_told, never}
use Rattle.one_copy_model.specs.World.{IsPending}
use Rattle.world_program.specs.declared.data.Replica.{Replica}
use Rattle.world_program.specs.Meaning.{store_in, answer_at, mail_in}
use Rattle.world_program.specs.Backends.{is_waiting, is_lost, is_answer, is_mailed}
use Rattle.world_program.proofs.SameLemmas.{answer_told}

some_pending : (x : Option Request) (mark : Bool) → is_some (pending_of x mark) ≡ is_some x
some_pending None mark = refl
some_pending (Some request) mark = refl

waiting_is : (tables : List TableDef) (x : Option Replica) (s : ℕ) → is_some ((store_in tables x).pending s) ≡ is_waiting x s
waiting_is tables None s = refl
waiting_is tables (Some r) s = some_pending (request_at (slice_get r.store.requests.items s)) (mark_in (slice_get r.store.crossed.items s))

waiting_told : (tables : List TableDef) (x : Option Replica) (s : ℕ) → Tells (is_waiting x s) (IsPending (store_in tables x) s)
waiting_told tables x s = (λ e. waiting_is tables x s ∙ e, λ h. sym (waiting_is tables x s) ∙ h)

none_or : (x : Option Pending) → Tells (not (is_some x)) (x ≡ None)
none_or None = (λ e. refl, λ h. refl)
none_or (Some p) = never _ (λ e. cc)

pub idle_told : (tables : List TableDef) (x : Option Replica) (s : ℕ) → Tells (not (is_waiting x s)) ((store_in tables x).pending s ≡ None)
idle_told tables x s =
    subst (λ (t : Bool). Tells (not t) ((store_in tables x).pending s ≡ None)) (waiting_is tables x s) (none_or ((store_in tables x).pending s))

lost_is : (tables : List TableDef) (x : Option Replica) → (store_in tables x).lost ≡ is_lost x
lost_is tables None = refl
lost_is tables (Some r) = refl

lost_told : (tables : List TableDef) (x : Option Replica) → Tells (is_lost x) ((store_in tables x).lost ≡ true)
lost_told tables x = (λ e. lost_is tables x ∙ e, λ h. sym (lost_is tables x) ∙ h)

answers_told : (x : Option Answer) (answer : Answer) → Tells (is_answer x answer) (x ≡ Some answer)
answers_told None answer = never _ (λ e. cc)
answers_told (Some mailed) answer = (λ e. ap Some ((answer_told mailed answer).0 e), λ e. (answer_told mailed answer).1 (let same : mailed ≡ answer = cc in same))

pub mailed_told : (x : Option Replica) (s : ℕ) (answer : Answer) → Tells (is_mailed x s answer) (mail_in x s ≡ Some answer)
mailed_told None s answer = never _ (λ e. cc)
mailed_told (Some r) s answer = answers_told (answer_at (slice_get r.mail.items s)) answer

pub fault_told : (tables : List TableDef) (x : Option Replica) (s : ℕ) → Tells (is_lost x && is_waiting x s) (((store_in tables x).lost ≡ true) × IsPending (store_in tables x) s)
fault_told tables x s = both_told _ _ _ _ (lost_told tables x) (waiting_told tables x s)

-- what the session's rules let comes where the rest of the world lets it
pub both_lets : {E P : Type 0} (Q : Type 0) (r : Result Bool E) → P → IfOk r (λ (may : Bool). IsTrue may ↔ Q) → IfOk r (λ (may : Bool). IsTrue may ↔ (P × Q))
both_lets Q (Ok may) p told = (λ e. (p, told.0 e), λ h. told.1 h.1)
both_lets Q (Err fault) p told = tt

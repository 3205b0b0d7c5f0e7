-- What is handed out: the copies that want memory, and what stands past the end of the answers.
use Rattle.std.proofs.Common.{◌≡◌, ℕ, Bool, false, List, Some, None, Result, Ok, Err, IfErr, refl, sym, ap, ◌∙◌}
use Rattle.std.specs.Prelude.{Option}
use Rattle.std.specs.List.{slice_get}
use Rattle.pool_base.specs.declared.backend_id.BackendId.{BackendId}
use Rattle.backend_trait.specs.declared.answer.Answer.{Answer}
use Rattle.backend_trait.specs.declared.answer.Answer.TheVariants as answers
use Rattle.session_machine.specs.declared.work.Work.{Work}
use Rattle.session_machine.specs.declared.machine.Heard.{Heard}
use Rattle.session_machine.specs.declared.machine.Point.TheVariants.{Resting}
use Rattle.session_machine.specs.declared.machine.Session.{Session}
use Rattle.session_machine.specs.Rules.{due, ran}
use Rattle.session_machine.proofs.Backends.{same_backend}
use Rattle.session_engine.specs.Places.{or_nobody, heard_at}
use Rattle.session_engine.specs.Sound.{is_plain, are_plain}
use Rattle.session_engine.proofs.Ones.{plain_from}

-- a copy of the answer at a place wants memory for rows among the answers
pub copy_wants : {E : Type 0} (r : Result Answer E) (hs : List Heard) (place : ℕ) (h : Heard) → slice_get hs place ≡ Some h → IfErr r (λ _. is_plain h.answer ≡ false)
    → IfErr r (λ _. are_plain hs ≡ false)
copy_wants (Ok copy) hs place h at want = tt
copy_wants (Err e) hs place h at want = plain_from hs place h at want

-- past the end stands an answer of nobody's
pub first_at : (hs : List Heard) (place : ℕ) (b : BackendId) → slice_get hs place ≡ None → b.number ≡ 0 → b ≡ (heard_at hs place).b
first_at hs place b none first = same_backend b (heard_at hs place).b (first ∙ rw none refl)

-- a statement that is answered as a snapshot is leads to rest
pub rests_at : (behind : Bool) (s : Session) (work : Work) (place : ℕ) (h : Heard) → slice_get s.heard place ≡ Some h → h.answer ≡ answers.Began
    → due s Resting ≡ ran behind s work (heard_at s.heard place).answer
rests_at behind s work place h at is =
    ap (λ (a : Answer). ran behind s work a) (sym (ap (λ (o : Option Heard). (or_nobody o).answer) at ∙ is))

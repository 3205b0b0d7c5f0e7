-- Of a read no answers differ: one backend alone has answered it, and an answer is the same as itself.
use Rattle.std.proofs.Common.{◌≡◌, ℕ, Bool, true, false, List, [], ◌∷◌, refl, sym, ap, ◌∙◌, subst}
use Rattle.std.specs.Prelude.{◌==◌, Some, None, if◌then◌else◌}
use Rattle.pool_base.specs.Sets.{has}
use Rattle.pool_base.specs.declared.backend_set.BackendSet.{BackendSet}
use Rattle.backend_trait.specs.declared.answer.Answer.{Answer}
use Rattle.session_machine.specs.declared.action.Cause.TheVariants.{Differs}
use Rattle.session_machine.specs.declared.work.Work.{Work}
use Rattle.session_machine.specs.declared.machine.Heard.{Heard}
use Rattle.session_machine.specs.declared.machine.Machine.{Machine}
use Rattle.session_machine.specs.declared.machine.Stage.TheVariants.{Reading}
use Rattle.session_machine.specs.declared.machine.Point.{Point}
use Rattle.session_machine.specs.declared.machine.Point.TheVariants.{SplitDue}
use Rattle.session_machine.specs.Answers.{is_same}
use Rattle.session_machine.specs.Rules.{action_at}
use Rattle.one_copy_model.specs.Chains.{HasOne, asked_in}
use Rattle.one_copy_model.specs.Deaths.{stage_at}
use Rattle.one_copy_model.specs.Statement.{IsJudged, answers_among}
use Rattle.one_copy_model.specs.Tracking.{Tracked}
use Rattle.one_copy_model.specs.Invariant.{Invariant}
use Rattle.one_copy_laws.proofs.RunsSame.{same_itself}

no_answer : (v : Bool) (answer : Answer) → (if v then None else None) ≡ Some answer → ⊥
no_answer true answer e = let z : None ≡ Some answer = e in cc
no_answer false answer e = let z : None ≡ Some answer = e in cc

its_answer : (v w : Bool) (x : Heard) (answer : Answer) → (if v then (if w then Some x.answer else None) else None) ≡ Some answer → x.answer ≡ answer
its_answer true true x answer e = let z : Some x.answer ≡ Some answer = e in let same : x.answer ≡ answer = cc in same
its_answer true false x answer e = absurd (let z : None ≡ Some answer = e in cc)
its_answer false w x answer e = absurd (let z : None ≡ Some answer = e in cc)

-- of one answer there are no two
one_answer : (among : BackendSet) (hs : List Heard) (c d : ℕ) (kept own : Answer) → HasOne None hs → answers_among among hs c ≡ Some kept → answers_among among hs d ≡ Some own → own ≡ kept
one_answer among [] c d kept own one e f = absurd (no_answer (has among.bits c) kept e)
one_answer among (x ∷ xs) c d kept own one e f =
    sym (its_answer (has among.bits d) (x.b.number == d) x own (subst (λ (ys : List Heard). answers_among among (x ∷ ys) d ≡ Some own) one f))
    ∙ its_answer (has among.bits c) (x.b.number == c) x kept (subst (λ (ys : List Heard). answers_among among (x ∷ ys) c ≡ Some kept) one e)

pub reads_agreed : (t : Tracked) (s : ℕ) (work : Work) (ticket : ℕ) (best own : Heard) (among : BackendSet) (more : Bool) → Invariant t
    → (t.world.machine s).point ≡ SplitDue (Reading work ticket) best own among more → ⊥
reads_agreed t s work ticket best own among more h at =
    let m : Machine = t.world.machine s in
    let j : IsJudged m own.b best.answer own.answer = h.causes s own.b (Differs best.answer own.answer) (ap (action_at m.session) at) in
    let one : HasOne None m.session.heard = subst (λ (p : Point). HasOne (asked_in p) m.session.heard) at ((h.in_order s (Reading work ticket) (ap stage_at at)).one refl) in
    let same : own.answer ≡ best.answer = one_answer j.among m.session.heard j.best.b.number own.b.number best.answer own.answer one j.kept_is j.own_is in
    let z : true ≡ false = sym (same_itself best.answer) ∙ ap (λ (x : Answer). is_same x best.answer) (sym same) ∙ j.differ in cc

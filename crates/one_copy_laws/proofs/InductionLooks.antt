-- Every Look keeps the invariant: by the point that is due, and of a chain by whom it asks, whose answer is kept and whether any differs.
use Rattle.std.proofs.Common.{◌≡◌, ℕ, Bool, true, false, List, [], ◌∷◌, refl, sym, ap, ◌∙◌, subst, inl, inr}
use Rattle.std.specs.Prelude.{◌&&◌, ◌==◌, not, is_some, if◌then◌else◌, Option, Some, None}
use Rattle.std.proofs.Common.{eqb-true}
use Rattle.pool_base.specs.Sets.{has}
use Rattle.pool_base.specs.declared.session_id.SessionId.{SessionId}
use Rattle.pool_base.specs.declared.backend_id.BackendId.{BackendId}
use Rattle.pool_base.specs.declared.gate_call.GateAnswer.{GateAnswer}
use Rattle.pool_base.specs.declared.gate_call.GateCall.TheVariants as calls
use Rattle.backend_trait.specs.declared.answer.Answer.{Answer}
use Rattle.backend_trait.specs.declared.answer.Answer.TheVariants as answers
use Rattle.backend_trait.specs.declared.request.Request.TheVariants as requests
use Rattle.backend_trait.specs.Acts.{IsOf}
use Rattle.backend_trait.specs.Store.{is_refusal}
use Rattle.session_machine.specs.declared.action.Action.TheVariants as actions
use Rattle.session_machine.specs.declared.action.SessionEvent.TheVariants.{Called}
use Rattle.session_machine.specs.declared.machine.Heard.{Heard}
use Rattle.session_machine.specs.declared.machine.Session.{Session}
use Rattle.session_machine.specs.declared.machine.Stage.{Stage}
use Rattle.session_machine.specs.declared.machine.Stage.TheVariants.{Opening, Reading, Running, Locking, Inserting, Committing, Closing, RollingBack}
use Rattle.session_machine.specs.declared.machine.Point.{Point}
use Rattle.session_machine.specs.declared.machine.Point.TheVariants.{LookDue, Waiting, ChooseDue, ShowDue}
use Rattle.session_machine.specs.declared.work.Work.{Work}
use Rattle.session_machine.specs.Answers.{lowest, next_of, first_open, kept, first_other, goes_on, counts, is_kept, is_largest, group_size}
use Rattle.session_machine.specs.Rules.{action_at, kind_of, request_of}
use Rattle.one_copy_model.specs.Chains.{HasOne, asked_in, goes_up}
use Rattle.one_copy_model.specs.declared.event.Event.TheVariants.{Of}
use Rattle.one_copy_model.specs.World.{MayHappen}
use Rattle.one_copy_model.specs.Deaths.{heard_from, mail_or, stage_at}
use Rattle.one_copy_model.specs.Tracking.{Tracked, tracked_after}
use Rattle.one_copy_model.specs.Invariant.{Invariant, IsInLine}
use Rattle.one_copy_model.proofs.Finding.{nobody_attached}
use Rattle.one_copy_model.proofs.Livings.{and_true}
use Rattle.one_copy_laws.proofs.LooksChoosing.{chosen_kept}
use Rattle.one_copy_laws.proofs.LooksEndingLaw.{ending_kept}
use Rattle.one_copy_laws.proofs.LooksEndings.{among_heard, found_among}
use Rattle.one_copy_laws.proofs.LooksLockingLaw.{locked_kept}
use Rattle.one_copy_laws.proofs.LooksLooking.{goes_on_kept, strands_kept}
use Rattle.one_copy_laws.proofs.LooksOpeningLaw.{opened_kept}
use Rattle.one_copy_laws.proofs.LooksShowing.{shown_kept}
use Rattle.one_copy_laws.proofs.SplitsSplitLaw.{split_kept}
use Rattle.one_copy_laws.proofs.SplitsStayLaw.{onward, unkept}
use Rattle.one_copy_laws.proofs.DecidedSame.{kind_is}
use Rattle.one_copy_laws.proofs.ResultsReadLaw.{read_kept}
use Rattle.one_copy_laws.proofs.ResultsRefusing.{refused_kept, refused_read_kept}
use Rattle.one_copy_laws.proofs.ResultsRereading.{reread_kept}
use Rattle.one_copy_laws.proofs.RunsRunLaw.{ran_kept}
use Rattle.one_copy_laws.proofs.InsertsLookLaw.{inserted_kept}

-- a result that ends a chain: each attached backend has answered
none_some : (x : Option BackendId) → is_some x ≡ false → x ≡ None
none_some None e = refl
none_some (Some b) e = absurd (let z : true ≡ false = e in cc)

none_open : (bits : ℕ) (hs : List Heard) (answer : Answer) → is_refusal answer ≡ false → goes_on bits hs answer ≡ false → first_open bits hs ≡ None
none_open bits hs answer right ends =
    none_some (first_open bits hs) (sym (ap (λ (v : Bool). not v && is_some (first_open bits hs)) right) ∙ ends)

-- of a lock the answer that is no refusal is Locked
locked_form : (answer : Answer) (table : ℕ) → IsOf (requests.Lock table) answer → is_refusal answer ≡ false → answer ≡ answers.Locked
locked_form answer table (inl is) right = is
locked_form answer table (inr (code, is)) right = absurd (let z : true ≡ false = sym (ap is_refusal is) ∙ right in cc)

-- of one answer that does not count no attached backend's is heard
unheard : (bits : ℕ) (one : Heard) → counts bits one ≡ false → (b : ℕ) → has bits b ≡ true → heard_from (one ∷ []) b ≡ None
unheard bits one out b here = by (one.b.number == b) refl
  where
    by : (v : Bool) → (one.b.number == b) ≡ v → (if v then Some one.answer else heard_from [] b) ≡ None
    by true e = absurd (let z : true ≡ false = sym here ∙ ap (has bits) (sym (eqb-true one.b.number b e)) ∙ out in cc)
    by false e = refl

module _ (t : Tracked) (s : SessionId) (answer : GateAnswer) (h : Invariant t) (may : MayHappen t.world (Of s (Called calls.Look answer))) where
  abbrev Kept : Type 0
  Kept = Invariant (tracked_after t (Of s (Called calls.Look answer)))

  abbrev bits : ℕ
  bits = t.world.gate.attached.bits

  abbrev hs : List Heard
  hs = (t.world.machine s.number).session.heard

  abbrev IsDue : Stage → Type 0
  IsDue stage = (t.world.machine s.number).point ≡ LookDue stage

  -- what an attached backend has answered is of the form of what is asked
  mail_none : (stage : Stage) → IsDue stage → (b : ℕ) → t.world.mail s.number b ≡ None
  mail_none stage at b = by (t.world.mail s.number b) refl
    where
      by : (x : Option Answer) → t.world.mail s.number b ≡ x → x ≡ None
      by None e = refl
      by (Some says) e =
          let line : IsInLine (t.world.machine s.number) b ((h.line s.number b).told says e).0 = ((h.line s.number b).told says e).1 in
          absurd (let z : LookDue stage ≡ Waiting line.stage line.at = sym at ∙ line.waits in cc)

  kept_form : (stage : Stage) (best : Heard) → IsDue stage → kept bits hs ≡ Some best → IsOf (request_of stage) best.answer
  unfolding is_kept
  kept_form stage best at found =
      let k = found_among (is_kept bits hs) hs best found in
      let here : has bits best.b.number ≡ true = (and_true (counts bits best) (is_largest bits hs (group_size bits hs best.answer)) k.0).0 in
      let in_it : stage_at (t.world.machine s.number).point ≡ Some stage = ap stage_at at in
      let says : heard_from hs best.b.number ≡ Some best.answer = among_heard hs best (h.in_order s.number stage in_it).rising k.1 in
      (h.heard s.number best.b.number stage best.answer here in_it
      (ap (λ (x : Option Answer). mail_or x (heard_from hs best.b.number)) (mail_none stage at best.b.number) ∙ says)).form

  -- at the end of a chain no answers differ, and the kept one decides
  module _ (first : BackendId) (there : lowest bits ≡ Some first) (best : Heard) (found : kept bits hs ≡ Some best)
      (alike : first_other bits best.answer 0 hs ≡ None) (ends : goes_on bits hs best.answer ≡ false) where
    closes : (stage : Stage) → goes_up stage ≡ true → IsDue stage → next_of (kind_of stage) bits hs ≡ None → Kept
    closes (Opening work) up at shut = opened_kept t s answer work best h at shut found alike may
    closes (Running work) up at shut = elim (kind_is best.answer) [
      | inl c ↦ refused_kept t s answer (Running work) best c.0 h at refl shut found alike c.1 may
      | inr right ↦ ran_kept t s answer work best h at shut found alike ends right may
    ]
    closes (Locking work table) up at shut = elim (kind_is best.answer) [
      | inl c ↦ refused_kept t s answer (Locking work table) best c.0 h at refl shut found alike c.1 may
      | inr right ↦ locked_kept t s answer work table best h at (none_open bits hs best.answer right ends) found alike
          (locked_form best.answer table (kept_form (Locking work table) best at found) right) may
    ]
    closes (Inserting work posted) up at shut = inserted_kept t s answer work posted best h at shut found alike may
    closes (Reading work ticket) up at shut = absurd (let z : false ≡ true = up in cc)
    closes Committing up at shut = ending_kept t s answer Committing h at refl may
    closes Closing up at shut = ending_kept t s answer Closing h at refl may
    closes (RollingBack ending) up at shut = ending_kept t s answer (RollingBack ending) h at refl may

  -- a chain: it shows no backend, it asks the next, or it is at its end
  module _ (stage : Stage) (at : IsDue stage) (up : goes_up stage ≡ true) where
    judges : (first : BackendId) → lowest bits ≡ Some first → next_of (kind_of stage) bits hs ≡ None → (best : Heard) → kept bits hs ≡ Some best
        → (other : Option Heard) → first_other bits best.answer 0 hs ≡ other → (on : Bool) → goes_on bits hs best.answer ≡ on → Kept
    judges first there shut best found (Some own) differs on e = split_kept t s answer stage best own h at up shut found differs may
    judges first there shut best found None alike true e = onward t s answer stage first best h at up shut there found alike e may
    judges first there shut best found None alike false e = closes first there best found alike e stage up at shut

    ends : (first : BackendId) → lowest bits ≡ Some first → next_of (kind_of stage) bits hs ≡ None → (found : Option Heard) → kept bits hs ≡ found → Kept
    ends first there shut None none = unkept t s answer stage first h at up shut there none may
    ends first there shut (Some best) found =
        judges first there shut best found (first_other bits best.answer 0 hs) refl (goes_on bits hs best.answer) refl

    asks : (first : BackendId) → lowest bits ≡ Some first → (next : Option BackendId) → next_of (kind_of stage) bits hs ≡ next → Kept
    asks first there (Some b) next = goes_on_kept t s answer stage b h at up next may
    asks first there None shut = ends first there shut (kept bits hs) refl

    shows : (first : Option BackendId) → lowest bits ≡ first → Kept
    shows (Some first) there = asks first there (next_of (kind_of stage) bits hs) refl
    shows None empty = strands_kept t s answer stage h at (nobody_attached bits h.few empty) may

    chain_kept : Kept
    chain_kept = shows (lowest bits) refl

  -- a read: its one answer counts, or it goes to another backend
  module _ (work : Work) (ticket : ℕ) (at : IsDue (Reading work ticket)) where
    counted : (one : Heard) (more : List Heard) → hs ≡ one ∷ more → counts bits one ≡ true → Kept
    counted one more heard here = elim (kind_is one.answer) [
      | inl c ↦ refused_read_kept t s answer work ticket one more c.0 h at heard here c.1 may
      | inr right ↦ read_kept t s answer work ticket one more h at heard here right may
    ]

    has_one : HasOne None hs
    has_one = subst (λ (p : Point). HasOne (asked_in p) hs) at ((h.in_order s.number (Reading work ticket) (ap stage_at at)).one refl)

    again : (heard : List Heard) → hs ≡ heard → ((b : ℕ) → has bits b ≡ true → heard_from heard b ≡ None) → Kept
    again heard is none = reread_kept t s answer work ticket h at (λ b here. ap (λ (x : List Heard). heard_from x b) is ∙ none b here) may

    answered : (one : Heard) (more : List Heard) → hs ≡ one ∷ more → (v : Bool) → counts bits one ≡ v → Kept
    answered one more heard true here = counted one more heard here
    answered one more heard false out =
        let alone : more ≡ [] = subst (HasOne None) heard has_one in
        again (one ∷ []) (heard ∙ ap (λ (x : List Heard). one ∷ x) alone) (unheard bits one out)

    reads : (heard : List Heard) → hs ≡ heard → Kept
    reads [] is = again [] is (λ b here. refl)
    reads (one ∷ more) is = answered one more is (counts bits one) refl

  by_stage : (stage : Stage) → IsDue stage → Kept
  by_stage (Opening work) at = chain_kept (Opening work) at refl
  by_stage (Reading work ticket) at = reads work ticket at hs refl
  by_stage (Running work) at = chain_kept (Running work) at refl
  by_stage (Locking work table) at = chain_kept (Locking work table) at refl
  by_stage (Inserting work posted) at = chain_kept (Inserting work posted) at refl
  by_stage Committing at = ending_kept t s answer Committing h at refl may
  by_stage Closing at = ending_kept t s answer Closing h at refl may
  by_stage (RollingBack ending) at = ending_kept t s answer (RollingBack ending) h at refl may

  -- a Look is due at these three points alone
  by_point : (session : Session) (point : Point) → (t.world.machine s.number).point ≡ point → action_at session point ≡ actions.Gate calls.Look → Kept
  by_point session (LookDue stage) at e = by_stage stage at
  by_point session (ChooseDue work) at e = chosen_kept t s answer work h at may
  by_point session ShowDue at e = shown_kept t s answer h at may
  by_point session point at e = absurd (cc)

  look_holds : Kept
  look_holds = by_point (t.world.machine s.number).session (t.world.machine s.number).point refl may.0.0

pub look_kept : (t : Tracked) (s : SessionId) (answer : GateAnswer) → Invariant t → MayHappen t.world (Of s (Called calls.Look answer))
    → Invariant (tracked_after t (Of s (Called calls.Look answer)))
look_kept t s answer h may = look_holds t s answer h may

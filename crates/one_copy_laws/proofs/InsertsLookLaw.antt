-- The law of a Look at the end of the chain of a serial insert's run, where no answers differ: it has its result, or it is refused.
use Rattle.std.proofs.Common.{◌≡◌, ℕ, ◌≤◌, Bool, true, false, List, [], ◌∷◌, refl, sym, ap, ◌∙◌, subst, arith, inl, inr}
use Rattle.std.specs.Prelude.{◌&&◌, not, Option, Some, None, is_some, if◌then◌else◌}
use Rattle.pool_base.specs.Sets.{has}
use Rattle.pool_base.specs.declared.code.Code.{Code}
use Rattle.pool_base.specs.declared.session_id.SessionId.{SessionId}
use Rattle.pool_base.specs.declared.backend_id.BackendId.{BackendId}
use Rattle.pool_base.specs.declared.gate_call.View.{View}
use Rattle.pool_base.specs.declared.gate_call.GateCall.TheVariants as calls
use Rattle.pool_base.specs.declared.gate_call.GateAnswer.{GateAnswer}
use Rattle.pool_base.specs.declared.gate_call.GateAnswer.TheVariants.{Seen}
use Rattle.backend_trait.specs.declared.request.Request.TheVariants as requests
use Rattle.backend_trait.specs.declared.answer.Answer.{Answer}
use Rattle.backend_trait.specs.declared.answer.Answer.TheVariants as answers
use Rattle.backend_trait.specs.Rows.{with_at}
use Rattle.backend_trait.specs.Store.{Dead, is_refusal}
use Rattle.snapshot_gate.specs.Function.{view_of}
use Rattle.session_machine.specs.declared.action.SessionEvent.{SessionEvent}
use Rattle.session_machine.specs.declared.action.SessionEvent.TheVariants.{Called}
use Rattle.session_machine.specs.declared.work.Work.{Work}
use Rattle.session_machine.specs.declared.machine.GatePhase.{GatePhase}
use Rattle.session_machine.specs.declared.machine.Heard.{Heard}
use Rattle.session_machine.specs.declared.machine.Machine.{Machine}
use Rattle.session_machine.specs.declared.machine.Session.{Session}
use Rattle.session_machine.specs.declared.machine.Ending.TheVariants.{Replies}
use Rattle.session_machine.specs.declared.machine.Stage.{Stage}
use Rattle.session_machine.specs.declared.machine.Stage.TheVariants.{Inserting, RollingBack}
use Rattle.session_machine.specs.declared.machine.Point.TheVariants.{LookDue, PostDue}
use Rattle.session_machine.specs.Answers.{goes_on as chain_goes_on, lowest, is_attached, counts, group_size, is_largest, is_kept, is_open, has_answered, first_open, next_of, kept, first_other, is_same}
use Rattle.session_machine.specs.Rules.{called, granted, with_view, failing, primary, kind_of, asked, looked_at, judged, split, decided, closed, refused_at, begun_at, error_of}
use Rattle.one_copy_model.specs.declared.deed.Entry.{Entry}
use Rattle.one_copy_model.specs.declared.event.Event.TheVariants.{Of}
use Rattle.one_copy_model.specs.SingleRun.{store_after}
use Rattle.one_copy_model.specs.World.{MayHappen}
use Rattle.one_copy_model.specs.Places.{place_of, at_granted, where_decided, decided_by, closing_look, closing_chain, kept_of, one_kept, refused_look}
use Rattle.one_copy_model.specs.Deaths.{is_live, stage_at, heard_from}
use Rattle.one_copy_model.specs.Tracking.{Told, Tracked, single, tracked_after}
use Rattle.one_copy_model.specs.Chains.{IsInOrder, has_told}
use Rattle.one_copy_model.specs.Standing.{Standing, Ahead, Fallen, Stands, standing_in, leaving_of}
use Rattle.one_copy_model.specs.Places.{asks_of}
use Rattle.one_copy_model.specs.Invariant.{Invariant, HasReason}
use Rattle.one_copy_model.specs.Own.{told_by, stand, IsIn}
use Rattle.one_copy_model.specs.Facts.{Facts}
use Rattle.one_copy_model.proofs.Turning.{FactsOf, facts_of, invariant_of, live_there}
use Rattle.one_copy_model.proofs.Landing.{with_at-self, alive_same}
use Rattle.one_copy_model.proofs.Calm.{is_waiting}
use Rattle.one_copy_model.proofs.Finding.{none_found, least_found, one_of_eight}
use Rattle.one_copy_model.proofs.Livings.{and_true, none_of, alive_where}
use Rattle.one_copy_laws.proofs.GateCalling.{called_to, lands_call}
use Rattle.one_copy_laws.proofs.LooksEndings.{found_among, among_heard, told_is, and_none}
use Rattle.one_copy_laws.proofs.LooksNexts.{answered_is, closed_is, looked_is, closing_is}
use Rattle.one_copy_laws.proofs.LooksOpeningLaw.{answered_alike}
use Rattle.one_copy_laws.proofs.DecidedSame.{kind_is}
use Rattle.one_copy_laws.proofs.ResultsRefusing.{look_at, places_live}
use Rattle.one_copy_laws.proofs.InsertsCounting.{plain_same}
use Rattle.one_copy_laws.proofs.InsertsCounting.{same_refused}
use Rattle.one_copy_laws.proofs.InsertsInsert as insert
use Rattle.one_copy_laws.proofs.InsertsRefusals.{rolls_to, amended_to, amended_lives, amended_facts, places_coded}
use Rattle.one_copy_laws.proofs.InsertsGives.{HasResult, replies_to, mid, live, lives_before, closes_to, gives_facts}

-- from the facts behind a Look at which nobody dies
module _ (t : Tracked) (h : Invariant t) (s : SessionId) (n : Machine) (behind : List Entry) where
  abbrev FactsWith : (ℕ → Option Told) → (ℕ → ℕ → Bool) → Type 0
  FactsWith orders done = Facts t.world.tables t.world.gate (with_at t.world.machine s.number n) t.world.store t.world.mail behind orders done (λ o. is_live ((store_after t.world.tables behind).transaction o))

  abbrev to : Tracked
  to = called_to t s calls.Look (Seen (view_of t.world.gate)) t.world.gate n behind (t.orders s.number) (t.done s.number)

  looked_holds : FactsWith t.orders t.done → ((o : ℕ) → is_live ((store_after t.world.tables behind).transaction o) ≡ true → live_there t o ≡ true) → Invariant to
  looked_holds facts before =
      invariant_of to
      (subst (λ (by : ℕ → Option Told). FactsWith by (with_at t.done s.number (t.done s.number))) (sym (with_at-self t.orders s.number))
      (subst (λ (did : ℕ → ℕ → Bool). FactsWith t.orders did) (sym (with_at-self t.done s.number)) facts))
      (λ o now. alive_same t.world to.world refl refl o ∙ h.alive o (before o now))

module _ (t : Tracked) (h : Invariant t) (s : SessionId) (work : Work) (posted : Bool) (at : (t.world.machine s.number).point ≡ LookDue (Inserting work posted))
    (first : BackendId) (there : lowest t.world.gate.attached.bits ≡ Some first)
    (end : first_open t.world.gate.attached.bits (t.world.machine s.number).session.heard ≡ None)
    (best : Heard) (found : kept t.world.gate.attached.bits (t.world.machine s.number).session.heard ≡ Some best)
    (alike : first_other t.world.gate.attached.bits best.answer 0 (t.world.machine s.number).session.heard ≡ None) where
  abbrev m : Machine
  m = t.world.machine s.number

  abbrev attached : ℕ
  attached = t.world.gate.attached.bits

  abbrev mail : ℕ → Option Answer
  mail = t.world.mail s.number

  abbrev hs : List Heard
  hs = m.session.heard

  abbrev stage : Stage
  stage = Inserting work posted

  abbrev view : View
  view = view_of t.world.gate

  abbrev looks : Session
  looks = with_view m.session view

  abbrev event : SessionEvent
  event = Called calls.Look (Seen view)

  f : FactsOf t
  f = facts_of t h

  in_stage : stage_at m.point ≡ Some stage
  in_stage = ap stage_at at

  free : is_waiting m.point ≡ false
  free = ap is_waiting at

  told_heard : (b : ℕ) → told_by m mail b ≡ heard_from hs b
  told_heard b = insert.told_heard t f s work posted in_stage free b

  best_here : IsIn attached best.b.number
  unfolding is_kept
  best_here = (and_true (counts attached best) (is_largest attached hs (group_size attached hs best.answer)) (found_among (is_kept attached hs) hs best found).0).0

  best_told : told_by m mail best.b.number ≡ Some best.answer
  best_told = told_heard best.b.number ∙ among_heard hs best ((f.own s.number).in_order stage in_stage).rising (found_among (is_kept attached hs) hs best found).1

  -- each attached backend has answered, and the same as the kept answer
  answered : (b : ℕ) → IsIn attached b → has_told m b ≡ true
  answered b here =
      let at_b : BackendId = record { number = b; below_8 = one_of_eight attached b h.few here } in
      sym (answered_is hs at_b) ∙ closed_is (has attached b) (has_answered hs at_b) here (none_found (is_open attached hs) end at_b)

  says : (b : ℕ) → IsIn attached b → (answer : Answer) × (told_by m mail b ≡ Some answer) × (is_same answer best.answer ≡ true)
  says b here =
      let a = told_is (heard_from hs b) (answered b here) in
      (a.0, told_heard b ∙ a.1, answered_alike attached hs best.answer alike b a.0 here a.1)

  stops : chain_goes_on attached hs best.answer ≡ false
  stops = ap (λ (x : Option BackendId). not (is_refusal best.answer) && is_some x) end ∙ and_none (not (is_refusal best.answer))

  leads : looked_at looks stage (primary looks) ≡ closed true looks stage best.answer
  unfolding asked
  leads =
      ap (looked_at looks stage) there ∙ looked_is looks stage refl ∙ ap (asked looks stage) end ∙ ap (judged looks stage) found
      ∙ ap (split true looks stage best looks.view.attached (chain_goes_on attached hs best.answer)) alike
      ∙ ap (decided true looks stage best.answer) stops

  decides : closing_look looks stage (primary looks) ≡ Some best.answer
  decides =
      ap (closing_look looks stage) there ∙ closing_is looks stage refl ∙ ap (closing_chain looks) end ∙ ap (kept_of looks) found
      ∙ ap (λ (x : Bool). one_kept x (first_other attached best.answer 0 hs) best.answer) stops
      ∙ ap (λ (x : Option Heard). one_kept false x best.answer) alike

  place : place_of m.session m.point event ≡ decided_by stage best.answer
  place = ap (at_granted looks) at ∙ ap (where_decided stage) decides

  -- they have the result
  module _ (plain : is_refusal best.answer ≡ false) where
    r : HasResult t s.number work best.answer
    r = record {
      plain = plain;
      form = ((f.own s.number).heard best.b.number stage best.answer best_here in_stage best_told).form;
      by = best.b.number;
      here = best_here;
      says = best_told;
      all = λ b here. let a = says b here in (a.0, a.1, plain_same a.0 best.answer plain a.2);
    }

    given_looked : Invariant (tracked_after t (Of s event))
    unfolding called granted
    given_looked =
        lands_call t s calls.Look (Seen view) t.world.gate (replies_to t f s work posted in_stage free best.answer r looks refl) (mid t f s work posted in_stage free best.answer r) (t.orders s.number) (t.done s.number) refl refl
        (ap (granted looks) at ∙ leads ∙ closes_to t f s work posted in_stage free best.answer r looks refl true)
        (places_live (live_there t s.number) t.world s.number m event t.history (decided_by stage best.answer) (live t f s work posted in_stage free best.answer r) place)
        refl refl
        (looked_holds t h s (replies_to t f s work posted in_stage free best.answer r looks refl) (mid t f s work posted in_stage free best.answer r)
        (gives_facts t f s work posted in_stage free best.answer r looks refl) (lives_before t f s work posted in_stage free best.answer r))

  -- each has refused, so it has died before in the single run
  module _ (code : Code) (is : best.answer ≡ answers.Refused code) where
    fallen_here : (b : ℕ) → IsIn attached b → (t.world.store b).transaction s.number ≡ Dead
    fallen_here b here =
        let a = says b here in
        let refuses : is_refusal a.0 ≡ true = same_refused a.0 code (sym (ap (is_same a.0) is) ∙ a.2) in
        let fell : stand m mail b ≡ Fallen =
        insert.stand_is t f s work posted in_stage free b ∙ ap (standing_in stage) a.1
        ∙ ap (λ (w : Bool). if w then Fallen else Ahead (requests.Run work.statement ∷ asks_of work ∷ [])) refuses in
        subst (λ (x : Standing). Stands (single t) s.number (leaving_of t.world.tables s.number t.history) x ((t.world.store b).transaction s.number) ((single t).transaction s.number)) fell ((f.own s.number).stands b here)

    dead : live_there t s.number ≡ false
    dead = none_of (live_there t s.number) not_live
      where
        not_live : live_there t s.number ≡ true → ⊥
        not_live lives =
            let a = alive_where t.world s.number (h.alive s.number lives) in
            let z : false ≡ true = sym (ap is_live (fallen_here a.0 a.1)) ∙ a.2 in cc

    reason : (told : Told) → t.orders s.number ≡ Some told → HasReason t.world.tables stage s.number code told.entries t.history
    reason told e = (f.own s.number).reasons stage told code in_stage e (inl (best.b.number, best_here, best_told ∙ ap Some is))

    abbrev rolls : Stage
    rolls = RollingBack (Replies (error_of code))

    abbrev n : Machine
    n = rolls_to t f s work posted in_stage free code reason looks refl (PostDue rolls first) (inr (first, refl))

    rolls_order : IsInOrder attached n rolls
    rolls_order = record {
      rising = tt;
      above = λ b e. tt;
      below = λ b c up here less told. elim told [
        | inl e ↦ absurd (
            let z : Some first.number ≡ Some c = e in
            let same : first.number ≡ c = cc in
            let low : first.number ≤ b = least_found (is_attached attached) first (record { number = b; below_8 = one_of_eight attached b h.few here }) there here in
            omega (arith, same, low, less))
        | inr e ↦ absurd (let z : false ≡ true = e in cc)
      ];
      one = λ single. absurd (let z : true ≡ false = single in cc);
    }

    abbrev amended_by : List Entry
    amended_by = amended_to t f s work posted in_stage free code reason looks refl (PostDue rolls first) (inr (first, refl)) dead rolls_order

    before : (o : ℕ) → is_live ((store_after t.world.tables amended_by).transaction o) ≡ true → live_there t o ≡ true
    before o now = amended_lives t f s work posted in_stage free code reason looks refl (PostDue rolls first) (inr (first, refl)) dead rolls_order o now

    goes_back : closed true looks stage best.answer ≡ n
    goes_back =
        ap (closed true looks stage) is
        ∙ ap (λ (g : GatePhase). refused_at true looks g (error_of code)) (insert.inside t f s work posted in_stage free).2
        ∙ ap (begun_at (failing looks) rolls) there

    refused_looked : Invariant (tracked_after t (Of s event))
    unfolding called granted
    refused_looked =
        lands_call t s calls.Look (Seen view) t.world.gate n amended_by (t.orders s.number) (t.done s.number) refl refl
        (ap (granted looks) at ∙ leads ∙ goes_back)
        (places_coded (live_there t s.number) t.world s.number m event t.history (decided_by stage (answers.Refused code)) code dead (place ∙ ap (decided_by stage) is) refl refl (ap (refused_look looks) at))
        refl refl
        (looked_holds t h s n amended_by (amended_facts t f s work posted in_stage free code reason looks refl (PostDue rolls first) (inr (first, refl)) dead rolls_order)
        before)

  pub inserted_look : Invariant (tracked_after t (Of s event))
  inserted_look = elim (kind_is best.answer) [ inl c ↦ refused_looked c.0 c.1 | inr plain ↦ given_looked plain ]

pub inserted_kept : (t : Tracked) (s : SessionId) (answer : GateAnswer) (work : Work) (posted : Bool) (best : Heard) → Invariant t
    → (t.world.machine s.number).point ≡ LookDue (Inserting work posted)
    → next_of (kind_of (Inserting work posted)) t.world.gate.attached.bits (t.world.machine s.number).session.heard ≡ None
    → kept t.world.gate.attached.bits (t.world.machine s.number).session.heard ≡ Some best
    → first_other t.world.gate.attached.bits best.answer 0 (t.world.machine s.number).session.heard ≡ None
    → MayHappen t.world (Of s (Called calls.Look answer)) → Invariant (tracked_after t (Of s (Called calls.Look answer)))
inserted_kept t s answer work posted best h at end found alike may =
    look_at t s answer (Inserting work posted) h at may (λ first there. inserted_look t h s work posted at first there end best found alike)

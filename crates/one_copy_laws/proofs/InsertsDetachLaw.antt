-- The law of the detachment behind which the kept answer to a serial insert's run decides: it has its result, or it is refused.
use Rattle.std.proofs.Common.{◌≡◌, ℕ, ◌+◌, Bool, true, false, List, [], refl, sym, ap, ◌∙◌, subst, inl, inr}
use Rattle.std.specs.Prelude.{Option, Some, None}
use Rattle.pool_base.specs.declared.code.Code.{Code}
use Rattle.pool_base.specs.declared.session_id.SessionId.{SessionId}
use Rattle.pool_base.specs.declared.backend_id.BackendId.{BackendId}
use Rattle.pool_base.specs.declared.backend_set.BackendSet.{BackendSet}
use Rattle.pool_base.specs.declared.gate_call.GateCall.TheVariants as calls
use Rattle.pool_base.specs.declared.gate_call.GateAnswer.{GateAnswer}
use Rattle.backend_trait.specs.declared.request.Request.TheVariants as requests
use Rattle.backend_trait.specs.declared.answer.Answer.{Answer}
use Rattle.backend_trait.specs.declared.answer.Answer.TheVariants as answers
use Rattle.backend_trait.specs.Acts.{IsOf}
use Rattle.backend_trait.specs.Store.{is_refusal}
use Rattle.snapshot_gate.specs.Function.{step}
use Rattle.session_machine.specs.declared.action.Cause.{Cause}
use Rattle.session_machine.specs.declared.action.SessionEvent.{SessionEvent}
use Rattle.session_machine.specs.declared.action.SessionEvent.TheVariants.{Detached}
use Rattle.session_machine.specs.declared.work.Work.{Work}
use Rattle.session_machine.specs.declared.machine.GatePhase.{GatePhase}
use Rattle.session_machine.specs.declared.machine.Heard.{Heard}
use Rattle.session_machine.specs.declared.machine.Machine.{Machine}
use Rattle.session_machine.specs.declared.machine.Session.{Session}
use Rattle.session_machine.specs.declared.machine.Ending.TheVariants.{Replies}
use Rattle.session_machine.specs.declared.machine.Stage.{Stage}
use Rattle.session_machine.specs.declared.machine.Stage.TheVariants.{Inserting, RollingBack}
use Rattle.session_machine.specs.declared.machine.Point.{Point}
use Rattle.session_machine.specs.declared.machine.Point.TheVariants.{LookDue, SplitDue}
use Rattle.session_machine.specs.Answers.{lowest, first_other, is_same}
use Rattle.session_machine.specs.Rules.{closed, detached, failing, refused_at, error_of}
use Rattle.one_copy_model.specs.declared.deed.Deed.{Deed}
use Rattle.one_copy_model.specs.declared.deed.Entry.{Entry}
use Rattle.one_copy_model.specs.declared.event.Event.TheVariants.{Of}
use Rattle.one_copy_model.specs.World.{World, MayHappen}
use Rattle.one_copy_model.specs.Places.{place_of, decided_by}
use Rattle.one_copy_model.specs.Deaths.{stage_at, heard_from}
use Rattle.one_copy_model.specs.Tracking.{Told, Tracked, tracked_after, placed, deaths_first}
use Rattle.one_copy_model.specs.Chains.{IsInOrder, IsParting, IsKept}
use Rattle.one_copy_model.specs.Invariant.{Invariant, HasReason}
use Rattle.one_copy_model.specs.Own.{told_by, IsIn}
use Rattle.one_copy_model.proofs.Turning.{FactsOf, live_there}
use Rattle.one_copy_model.proofs.Calm.{is_waiting}
use Rattle.one_copy_model.proofs.Beginning.{begun_order}
use Rattle.one_copy_laws.proofs.LooksEndings.{told_is}
use Rattle.one_copy_laws.proofs.DecidedSame.{kind_is}
use Rattle.one_copy_laws.proofs.DecidedParting.{facts_left, behind, lands_left}
use Rattle.one_copy_laws.proofs.DecidedDeciding as split
use Rattle.one_copy_laws.proofs.ResultsRefusing.{places_live}
use Rattle.one_copy_laws.proofs.InsertsCounting.{plain_same}
use Rattle.one_copy_laws.proofs.InsertsCounting.{insert_counts, one_count}
use Rattle.one_copy_laws.proofs.InsertsInsert as insert
use Rattle.one_copy_laws.proofs.InsertsRefusals.{rolls_to, dies_to, dies_facts, amended_to, amended_facts, places_coded}
use Rattle.one_copy_laws.proofs.InsertsGives.{HasResult, replies_to, mid, live, closes_to, gives_facts}

module _ (t : Tracked) (h : Invariant t) (s : SessionId) (b first : BackendId) (cause : Cause) (answer : GateAnswer) (work : Work) (posted : Bool) (best own : Heard) (among : BackendSet)
    (at : (t.world.machine s.number).point ≡ SplitDue (Inserting work posted) best own among false)
    (none : first_other among.bits best.answer (own.b.number + 1) (t.world.machine s.number).session.heard ≡ None)
    (there : lowest (step t.world.gate (calls.Detach b)).0.attached.bits ≡ Some first)
    (may : MayHappen t.world (Of s (Detached b cause answer))) where
  abbrev m : Machine
  m = t.world.machine s.number

  abbrev mail : ℕ → Option Answer
  mail = t.world.mail s.number

  abbrev stage : Stage
  stage = Inserting work posted

  -- the same moment over those that are left
  abbrev left : Tracked
  left = behind t h s b

  f : FactsOf left
  f = facts_left t h s b

  abbrev those : ℕ
  those = left.world.gate.attached.bits

  abbrev looks : Session
  looks = split.looks t h s b first cause answer stage best own among at none there may

  abbrev event : SessionEvent
  event = Detached b cause (step t.world.gate (calls.Detach b)).1

  in_stage : stage_at m.point ≡ Some stage
  in_stage = ap stage_at at

  free : is_waiting m.point ≡ false
  free = ap is_waiting at

  was : IsParting those m best own among false
  was = (f.own s.number).parting stage best own among false at

  first_here : IsIn those first.number
  first_here = split.first_here t h s b first cause answer stage best own among at none there may

  -- each of those that are left has answered, and the same as the kept answer
  says : (k : ℕ) → IsIn those k → (given : Answer) × (told_by m mail k ≡ Some given) × (is_same given best.answer ≡ true)
  says k here =
      let a = told_is (heard_from m.session.heard k) (was.drawn work posted in_stage k here) in
      (a.0, insert.told_heard left f s work posted in_stage free k ∙ a.1, split.alike t h s b first cause answer stage best own among at none there may k a.0 here a.1)

  all : (k : ℕ) → IsIn those k → (given : Answer) × (told_by m mail k ≡ Some given)
  all k here = let a = says k here in (a.0, a.1)

  leads : (n : Machine) → closed false looks stage best.answer ≡ n → detached m.session m.point (step t.world.gate (calls.Detach b)).1 ≡ n
  leads n e = split.leads t h s b first cause answer stage best own among at none there may ∙ e

  place : place_of m.session m.point event ≡ decided_by stage best.answer
  place = split.place t h s b first cause answer stage best own among at none there may

  -- a lock stands before the run, so no death comes first
  calm : (w : World) → deaths_first w event (place_of m.session m.point event) t.history ≡ t.history
  calm w = ap (λ (d : List Deed). deaths_first w event d t.history) place

  lands : (n : Machine) (more : List Entry) → closed false looks stage best.answer ≡ n → placed (live_there t s.number) t.world s.number m event t.history ≡ more
      → insert.Turned_to left f s work posted in_stage free n more → Invariant (tracked_after t (Of s (Detached b cause answer)))
  lands n more e places facts =
      subst (λ (x : GateAnswer). Invariant (tracked_after t (Of s (Detached b cause x)))) may.1.1
      (lands_left t h s b cause n more (leads n e) calm places first there facts)

  -- they have the result
  module _ (plain : is_refusal best.answer ≡ false) where
    form : IsOf (requests.Run work.statement) best.answer
    form = was.form stage in_stage

    counts_to : (given : Answer) → IsOf (requests.Run work.statement) given → is_refusal given ≡ false → (n : ℕ) × (given ≡ answers.Count n)
    counts_to given of right =
        let c = insert.classed left f s work posted in_stage free in
        insert_counts work.statement.body c.1.0 work.statement.columns given (sym c.0.class ∙ c.1.1) of right

    first_says : told_by m mail first.number ≡ Some best.answer
    first_says =
        let a = says first.number first_here in
        let right : is_refusal a.0 ≡ false = plain_same a.0 best.answer plain a.2 in
        let x = counts_to a.0 ((f.own s.number).heard first.number stage a.0 first_here in_stage a.1).form right in
        let y = counts_to best.answer form plain in
        a.1 ∙ ap Some (one_count a.0 best.answer x.0 y.0 x.1 y.1 a.2)

    r : HasResult left s.number work best.answer
    r = record {
      plain = plain;
      form = form;
      by = first.number;
      here = first_here;
      says = first_says;
      all = λ k here. let a = says k here in (a.0, a.1, plain_same a.0 best.answer plain a.2);
    }

    given_decided : Invariant (tracked_after t (Of s (Detached b cause answer)))
    given_decided =
        lands (replies_to left f s work posted in_stage free best.answer r looks refl) (mid left f s work posted in_stage free best.answer r)
        (closes_to left f s work posted in_stage free best.answer r looks refl false)
        (places_live (live_there t s.number) t.world s.number m event t.history (decided_by stage best.answer) (live left f s work posted in_stage free best.answer r) place)
        (gives_facts left f s work posted in_stage free best.answer r looks refl)

  -- they have refused
  module _ (code : Code) (is : best.answer ≡ answers.Refused code) where
    reason : (told : Told) → t.orders s.number ≡ Some told → HasReason t.world.tables stage s.number code told.entries t.history
    reason told e =
        (f.own s.number).reasons stage told code in_stage e
        (inr (subst (λ (p : Point). IsKept p (answers.Refused code)) (sym at) is, (first.number, first_here)))

    abbrev rolls : Stage
    rolls = RollingBack (Replies (error_of code))

    abbrev n : Machine
    n = rolls_to left f s work posted in_stage free code reason looks refl (LookDue rolls) (inl refl)

    rolls_order : IsInOrder those n rolls
    rolls_order = begun_order those (record (failing looks) { heard = [] }) rolls rolls refl

    goes_back : closed false looks stage best.answer ≡ n
    goes_back =
        ap (closed false looks stage) is
        ∙ ap (λ (g : GatePhase). refused_at false looks g (error_of code)) (insert.inside left f s work posted in_stage free).2

    deeds : place_of m.session m.point event ≡ decided_by stage (answers.Refused code)
    deeds = place ∙ ap (decided_by stage) is

    dies_now : live_there t s.number ≡ true → Invariant (tracked_after t (Of s (Detached b cause answer)))
    dies_now lives =
        lands n (dies_to left f s work posted in_stage free code reason looks refl (LookDue rolls) (inl refl) lives rolls_order all) goes_back
        (places_live (live_there t s.number) t.world s.number m event t.history (decided_by stage (answers.Refused code)) lives deeds)
        (dies_facts left f s work posted in_stage free code reason looks refl (LookDue rolls) (inl refl) lives rolls_order all)

    died_before : live_there t s.number ≡ false → Invariant (tracked_after t (Of s (Detached b cause answer)))
    died_before dead =
        lands n (amended_to left f s work posted in_stage free code reason looks refl (LookDue rolls) (inl refl) dead rolls_order) goes_back
        (places_coded (live_there t s.number) t.world s.number m event t.history (decided_by stage (answers.Refused code)) code dead deeds refl refl
        (split.refused t h s b first cause answer stage best own among at none there may))
        (amended_facts left f s work posted in_stage free code reason looks refl (LookDue rolls) (inl refl) dead rolls_order)

    refused_decided : Invariant (tracked_after t (Of s (Detached b cause answer)))
    refused_decided = by (live_there t s.number) refl
      where
        by : (v : Bool) → live_there t s.number ≡ v → Invariant (tracked_after t (Of s (Detached b cause answer)))
        by true e = dies_now e
        by false e = died_before e

  pub inserted_decided : Invariant (tracked_after t (Of s (Detached b cause answer)))
  inserted_decided = elim (kind_is best.answer) [ inl c ↦ refused_decided c.0 c.1 | inr plain ↦ given_decided plain ]

pub inserted_decided_kept : (t : Tracked) (s : SessionId) (b first : BackendId) (cause : Cause) (answer : GateAnswer) (work : Work) (posted : Bool) (best own : Heard) (among : BackendSet) → Invariant t
    → (t.world.machine s.number).point ≡ SplitDue (Inserting work posted) best own among false
    → first_other among.bits best.answer (own.b.number + 1) (t.world.machine s.number).session.heard ≡ None
    → lowest (step t.world.gate (calls.Detach b)).0.attached.bits ≡ Some first
    → MayHappen t.world (Of s (Detached b cause answer)) → Invariant (tracked_after t (Of s (Detached b cause answer)))
inserted_decided_kept t s b first cause answer work posted best own among h at none there may =
    inserted_decided t h s b first cause answer work posted best own among at none there may

-- The law of a Look behind which a serial insert has its lock: its run is asked for.
use Rattle.std.proofs.Common.{◌≡◌, ℕ, ◌≤◌, Bool, true, false, List, [], ◌∷◌, refl, sym, ap, ◌∙◌, subst, arith, inl, inr}
use Rattle.std.specs.Prelude.{◌&&◌, not, Option, Some, None, is_some, if◌then◌else◌}
use Rattle.pool_base.specs.Sets.{has}
use Rattle.pool_base.specs.declared.code.Code.{Code}
use Rattle.pool_base.specs.declared.session_id.SessionId.{SessionId}
use Rattle.pool_base.specs.declared.backend_id.BackendId.{BackendId}
use Rattle.pool_base.specs.declared.gate_call.View.{View}
use Rattle.pool_base.specs.declared.gate_call.GateCall.TheVariants as calls
use Rattle.pool_base.specs.declared.gate_call.GateAnswer.{GateAnswer}
use Rattle.pool_base.specs.declared.gate_call.GateAnswer.TheVariants.{Seen}
use Rattle.backend_trait.specs.declared.request.Request.TheVariants as requests
use Rattle.backend_trait.specs.declared.request.Request.{Request}
use Rattle.session_machine.specs.Answers.{next_of, is_stopped}
use Rattle.session_machine.specs.Rules.{kind_of}
use Rattle.one_copy_model.specs.Places.{asks_as, asks_of}
use Rattle.one_copy_model.specs.Orders.{IsClassedIn}
use Rattle.one_copy_model.specs.Invariant.{fits_stage}
use Rattle.backend_trait.specs.declared.answer.Answer.{Answer}
use Rattle.backend_trait.specs.declared.answer.Answer.TheVariants as answers
use Rattle.backend_trait.specs.Acts.{IsOf}
use Rattle.backend_trait.specs.Rows.{with_at}
use Rattle.backend_trait.specs.Store.{is_refusal}
use Rattle.snapshot_gate.specs.Function.{view_of}
use Rattle.session_machine.specs.declared.action.SessionEvent.TheVariants.{Called}
use Rattle.session_machine.specs.declared.work.Work.{Work}
use Rattle.session_machine.specs.declared.work.Class.TheVariants as classes
use Rattle.session_machine.specs.declared.machine.GatePhase.{GatePhase}
use Rattle.session_machine.specs.declared.machine.GatePhase.TheVariants as phases
use Rattle.session_machine.specs.declared.machine.Heard.{Heard}
use Rattle.session_machine.specs.declared.machine.Machine.{Machine}
use Rattle.session_machine.specs.declared.machine.Session.{Session}
use Rattle.session_machine.specs.declared.machine.Stage.{Stage}
use Rattle.session_machine.specs.declared.machine.Stage.TheVariants.{Locking, Inserting}
use Rattle.session_machine.specs.declared.machine.Point.{Point}
use Rattle.session_machine.specs.declared.machine.Point.TheVariants.{Resting, LookDue, PostDue}
use Rattle.session_machine.specs.Answers.{goes_on as chain_goes_on, lowest, is_attached, has_answered, is_open, first_open, kept, first_other, is_same}
use Rattle.session_machine.specs.Rules.{due, called, granted, with_view, primary, asked, looked_at, judged, split, decided, closed, begun_at}
use Rattle.one_copy_model.specs.declared.deed.Entry.{Entry}
use Rattle.one_copy_model.specs.declared.event.Event.TheVariants.{Of}
use Rattle.one_copy_model.specs.World.{MayHappen}
use Rattle.one_copy_model.specs.Places.{at_granted, refused_look, where_decided, closing_look, closing_chain, one_kept, kept_of}
use Rattle.one_copy_model.specs.Deaths.{stage_at, heard_from, mail_or}
use Rattle.one_copy_model.specs.Tracking.{Told, Tracked, single, tracked_after}
use Rattle.one_copy_model.specs.Chains.{IsInOrder, has_told}
use Rattle.one_copy_model.specs.Orders.{OrderAt, IsStatement, IsClassedAt}
use Rattle.one_copy_model.specs.Standing.{Standing, Ahead, Leaving, Stands, standing_in, standing_by, leaving_of}
use Rattle.one_copy_model.specs.Invariant.{Invariant, FitsPoint, where_live, wants_of, inserted_in, Inserts, HaveLocks}
use Rattle.one_copy_model.specs.Own.{told_by, stand, IsIn, Own}
use Rattle.one_copy_model.proofs.Counts.{still}
use Rattle.one_copy_model.proofs.Turning.{facts_of, live_there}
use Rattle.one_copy_model.proofs.Landing.{places_none}
use Rattle.one_copy_model.proofs.Calm.{free_of, is_waiting}
use Rattle.one_copy_model.proofs.Quiet.{real}
use Rattle.one_copy_model.proofs.Beginning.{no_mail}
use Rattle.one_copy_model.proofs.Finding.{none_found, least_found, one_of_eight}
use Rattle.one_copy_laws.proofs.GateCalling.{called_to, lands_call, seen_view}
use Rattle.one_copy_laws.proofs.GateGoing.{goes_with}
use Rattle.one_copy_laws.proofs.LooksNexts.{answered_is, closed_is}
use Rattle.one_copy_laws.proofs.LooksEndings.{told_is, and_none}
use Rattle.one_copy_laws.proofs.LooksShowing.{seen_is}
use Rattle.one_copy_laws.proofs.LooksLockSets.{backed_where, lock_here, locks_set}
use Rattle.one_copy_laws.proofs.LooksLooking.{strands_kept}
use Rattle.one_copy_model.proofs.Finding.{nobody_attached}
use Rattle.one_copy_laws.proofs.LooksOpeningLaw.{answered_alike}

phase_fits : (work : Work) (table : ℕ) (phase : GatePhase) → fits_stage (Locking work table) phase ≡ true → fits_stage (Inserting work false) phase ≡ true
phase_fits work table (phases.Live changed written) e = refl
phase_fits work table phases.Out e = absurd (let z : false ≡ true = e in cc)
phase_fits work table phases.InSnapshot e = absurd (let z : false ≡ true = e in cc)
phase_fits work table phases.InCommit e = absurd (let z : false ≡ true = e in cc)

locked_refused : (code : Code) → is_same (answers.Refused code) answers.Locked ≡ false
locked_refused code = refl

either_none : (v : Bool) (found : Option BackendId) → found ≡ None → (if v then None else found) ≡ None
either_none true found e = refl
either_none false found e = e

module _ (t : Tracked) (h : Invariant t) (s : SessionId) (work : Work) (table : ℕ) (at : (t.world.machine s.number).point ≡ LookDue (Locking work table))
    (first : BackendId) (there : lowest t.world.gate.attached.bits ≡ Some first)
    (shut : first_open t.world.gate.attached.bits (t.world.machine s.number).session.heard ≡ None) where
  abbrev m : Machine
  m = t.world.machine s.number

  abbrev attached : ℕ
  attached = t.world.gate.attached.bits

  abbrev mail : ℕ → Option Answer
  mail = t.world.mail s.number

  abbrev view : View
  view = view_of t.world.gate

  abbrev looks : Session
  looks = with_view m.session view

  abbrev stage : Stage
  stage = Locking work table

  abbrev runs : Stage
  runs = Inserting work false

  abbrev Looked_to : Machine → List Entry → Type 0
  Looked_to n mid = Invariant (called_to t s calls.Look (Seen view) t.world.gate n mid (t.orders s.number) (t.done s.number))

  own_was : Own t.world.tables attached t.history t.world.store m mail (t.orders s.number) (t.done s.number) (live_there t s.number) s.number
  own_was = (facts_of t h).own s.number

  free : is_waiting m.point ≡ false
  free = ap is_waiting at

  awake : m.point ≡ Resting → ⊥
  awake rest = let z : LookDue stage ≡ Resting = sym at ∙ rest in cc

  answered : (b : ℕ) → IsIn attached b → has_told m b ≡ true
  answered b here =
      let at_b : BackendId = record { number = b; below_8 = one_of_eight attached b h.few here } in
      sym (answered_is m.session.heard at_b) ∙ closed_is (has attached b) (has_answered m.session.heard at_b) here (none_found (is_open attached m.session.heard) shut at_b)

  mail_none : (b : ℕ) → mail b ≡ None
  mail_none b = no_mail t.world.tables attached t.history t.history t.world.store m mail (t.orders s.number) (t.done s.number) (live_there t s.number) s.number (real s) (free_of m.point free) own_was b

  told_heard : (b : ℕ) → told_by m mail b ≡ heard_from m.session.heard b
  told_heard b = ap (λ x. mail_or x (heard_from m.session.heard b)) (mail_none b)

  classed : IsClassedIn t.world.tables stage
  classed = subst (IsClassedAt t.world.tables) at own_was.classed

  asks_lock : asks_of work ≡ requests.Lock table
  asks_lock = ap (asks_as work.statement) classed.1

  statement : (session : Session) → session.status ≡ m.session.status → (told : Told) → t.orders s.number ≡ Some told → IsStatement session told work
  statement session same told e =
      let o : IsStatement m.session told work = subst (λ (p : Point). OrderAt m.session p told) at (own_was.order_is told e) in
      record { checked = o.checked; body = o.body; written = o.written; status = same ∙ o.status }

  module _ (best : Heard) (found : kept attached m.session.heard ≡ Some best) (alike : first_other attached best.answer 0 m.session.heard ≡ None) (is : best.answer ≡ answers.Locked) where
    form_of : (b : ℕ) (answer : Answer) → IsIn attached b → heard_from m.session.heard b ≡ Some answer → IsOf (requests.Lock table) answer
    form_of b answer here e = (own_was.heard b stage answer here (ap stage_at at) (told_heard b ∙ e)).form

    locks : (b : ℕ) → IsIn attached b → told_by m mail b ≡ Some answers.Locked
    locks b here =
        let a = told_is (heard_from m.session.heard b) (answered b here) in
        told_heard b ∙ a.1 ∙ ap Some (elim (form_of b a.0 here a.1) [
          | inl e ↦ e
          | inr c ↦ absurd (let z : false ≡ true = sym (locked_refused c.0) ∙ ap (λ y. is_same y answers.Locked) (sym c.1) ∙ ap (is_same a.0) (sym is) ∙ answered_alike attached m.session.heard best.answer alike b a.0 here a.1 in cc)
        ])

    ahead : (b : ℕ) → IsIn attached b → stand m mail b ≡ Ahead (requests.Lock table ∷ [])
    ahead b here = ap (λ (p : Point). standing_by m.session.gate p (stage_at p) (told_by m mail b)) at ∙ ap (standing_in stage) (locks b here)

    goes_none : chain_goes_on attached m.session.heard best.answer ≡ false
    goes_none = ap (λ (x : Option BackendId). not (is_refusal best.answer) && is_some x) shut ∙ and_none (not (is_refusal best.answer))

    next_none : next_of (kind_of stage) attached m.session.heard ≡ None
    next_none = either_none (is_stopped (kind_of stage) m.session.heard (lowest attached)) (first_open attached m.session.heard) shut

    abbrev n : Machine
    n = due (record looks { heard = [] }) (PostDue runs first)

    leads : looked_at looks stage (primary looks) ≡ n
    unfolding asked
    leads =
        ap (looked_at looks stage) there ∙ ap (asked looks stage) next_none ∙ ap (judged looks stage) found
        ∙ ap (split true looks stage best view.attached (chain_goes_on attached m.session.heard best.answer)) alike
        ∙ ap (decided true looks stage best.answer) goes_none
        ∙ ap (closed true looks stage) is ∙ ap (begun_at looks runs) there

    decides : closing_look looks stage (primary looks) ≡ Some answers.Locked
    decides =
        ap (closing_look looks stage) there ∙ ap (closing_chain looks) next_none ∙ ap (kept_of looks) found
        ∙ ap (λ (x : Bool). one_kept x (first_other attached best.answer 0 m.session.heard) best.answer) goes_none
        ∙ ap (λ (x : Option Heard). one_kept false x best.answer) alike ∙ ap Some is

    untold : (b : ℕ) → told_by n mail b ≡ None
    untold b = ap (λ x. mail_or x None) (mail_none b)

    stands_on : (b : ℕ) → IsIn attached b → stand n mail b ≡ stand m mail b
    stands_on b here = ap (standing_in runs) (untold b) ∙ ap (λ (r : Request). Ahead (r ∷ [])) asks_lock ∙ sym (ahead b here)

    runs_order : IsInOrder attached n runs
    runs_order = record {
      rising = tt;
      above = λ b e. tt;
      below = λ b c up here less told. elim told [
        | inl e ↦ absurd (
            let z : Some first.number ≡ Some c = e in
            let same : first.number ≡ c = cc in
            let low : first.number ≤ b = least_found (is_attached attached) first (record { number = b; below_8 = one_of_eight attached b h.few here }) there here in
            omega (arith, same, low, less))
        | inr e ↦ absurd (let z : false ≡ true = e in cc)
      ];
      one = λ single. absurd (let z : true ≡ false = single in cc);
    }

    -- each attached backend has its lock, so nobody else who is live there has an insert of the table under way, or is in its way
    begins_at : (k : ℕ) → Inserts n k → k ≡ table
    begins_at k i =
        let same : work ≡ i.work = (let z : Some work ≡ Some i.work = i.inserting in cc) in
        let class : classes.SerialInsert k ≡ classes.SerialInsert table = sym i.at ∙ ap (λ (x : Work). x.class) (sym same) ∙ classed.1 in
        let z : k ≡ table = cc in z

    runs_locks : HaveLocks (single t) (with_at t.world.machine s.number n)
    runs_locks =
        locks_set (single t) attached t.world.store t.world.machine s.number n table h.sound
        (λ o other live. backed_where t h o live)
        (λ b here. lock_here (single t) s.number table ((t.world.store b).transaction s.number) ((single t).transaction s.number)
        (subst (λ (x : Standing). Stands (single t) s.number (leaving_of t.world.tables s.number t.history) x ((t.world.store b).transaction s.number) ((single t).transaction s.number)) (ahead b here) (own_was.stands b here)))
        begins_at h.locks

    runs_on : Looked_to n t.history
    runs_on =
        goes_with t h s n t.world.gate free awake refl
        (λ b x here e. untold b)
        (phase_fits work table m.session.gate (subst (λ (p : Point). FitsPoint (stage_at p) p m.session.gate) at own_was.inside))
        (classed.0, (table, classed.1))
        (λ x e. subst (IsInOrder attached n) (let z : Some runs ≡ Some x = e in let same : runs ≡ x = cc in same) runs_order)
        stands_on
        (λ b here e. let z : Ahead (requests.Lock table ∷ []) ≡ Leaving = sym (ahead b here) ∙ e in cc)
        own_was.unchanged
        (own_was.posts ∙ ap (λ (p : Point). where_live (live_there t s.number) (wants_of p (stage_at p))) at)
        (λ told outcome e f. absurd (let z : None ≡ Some outcome = f in cc))
        (λ e. e)
        (statement n.session refl)
        refl
        refl (still t.world.gate t.world.machine m.session.gate m.session.gate refl (facts_of t h).counts) (λ x. x)
        (λ b here. ap (λ (p : Point). inserted_in (stage_at p) (told_by m mail b)) at)
        runs_locks

    pub locked_look : Invariant (tracked_after t (Of s (Called calls.Look (Seen view))))
    unfolding called granted
    locked_look =
        lands_call t s calls.Look (Seen view) t.world.gate n t.history (t.orders s.number) (t.done s.number) refl refl
        (ap (granted looks) at ∙ leads)
        (places_none (live_there t s.number) t.world s.number m (Called calls.Look (Seen view)) t.history
        (ap (at_granted looks) at ∙ ap (where_decided stage) decides) refl
        (ap (refused_look looks) at))
        refl refl runs_on

-- a Look at which all attached backends have locked the table
pub locked_kept : (t : Tracked) (s : SessionId) (answer : GateAnswer) (work : Work) (table : ℕ) (best : Heard) → Invariant t → (t.world.machine s.number).point ≡ LookDue (Locking work table)
    → first_open t.world.gate.attached.bits (t.world.machine s.number).session.heard ≡ None
    → kept t.world.gate.attached.bits (t.world.machine s.number).session.heard ≡ Some best
    → first_other t.world.gate.attached.bits best.answer 0 (t.world.machine s.number).session.heard ≡ None
    → best.answer ≡ answers.Locked
    → MayHappen t.world (Of s (Called calls.Look answer)) → Invariant (tracked_after t (Of s (Called calls.Look answer)))
locked_kept t s answer work table best h at shut found alike is may =
    let v = seen_view answer may.0.1 in
    subst (λ (a : GateAnswer). Invariant (tracked_after t (Of s (Called calls.Look a)))) (sym (v.1 ∙ ap Seen (seen_is (view_of t.world.gate) v.0 (may.1.1 ∙ v.1))))
    (by (lowest t.world.gate.attached.bits) refl)
  where
    by : (first : Option BackendId) → lowest t.world.gate.attached.bits ≡ first → Invariant (tracked_after t (Of s (Called calls.Look (Seen (view_of t.world.gate)))))
    by (Some first) there = locked_look t h s work table at first there shut best found alike is
    by None there =
        let v = seen_view answer may.0.1 in
        subst (λ (a : GateAnswer). Invariant (tracked_after t (Of s (Called calls.Look a)))) (v.1 ∙ ap Seen (seen_is (view_of t.world.gate) v.0 (may.1.1 ∙ v.1)))
        (strands_kept t s answer (Locking work table) h at (nobody_attached t.world.gate.attached.bits h.few there) may)

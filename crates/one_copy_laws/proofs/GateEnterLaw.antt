-- The law of EnterSnapshot.
use Rattle.std.proofs.Common.{◌≡◌, ℕ, ◌≤◌, true, false, length, refl, sym, ap, ◌∙◌, subst, inr}
use Rattle.std.specs.Prelude.{Option, Some, None, is_some}
use Rattle.pool_base.specs.declared.session_id.SessionId.{SessionId}
use Rattle.pool_base.specs.declared.gate_call.View.{View}
use Rattle.pool_base.specs.declared.gate_call.GateCall.TheVariants as calls
use Rattle.pool_base.specs.declared.gate_call.GateAnswer.{GateAnswer}
use Rattle.pool_base.specs.declared.gate_call.GateAnswer.TheVariants.{Seen, Granted, Held, Spent}
use Rattle.backend_trait.specs.declared.answer.Answer.{Answer}
use Rattle.snapshot_gate.specs.declared.state.GateState.{GateState}
use Rattle.snapshot_gate.specs.Function.{granted as gate_granted, step}
use Rattle.session_machine.specs.declared.action.SessionEvent.TheVariants.{Called}
use Rattle.session_machine.specs.declared.work.Work.{Work}
use Rattle.session_machine.specs.declared.machine.GatePhase.{GatePhase}
use Rattle.session_machine.specs.declared.machine.GatePhase.TheVariants as phases
use Rattle.session_machine.specs.declared.machine.Machine.{Machine}
use Rattle.session_machine.specs.declared.machine.Session.{Session}
use Rattle.session_machine.specs.declared.machine.Ending.TheVariants.{Replies}
use Rattle.session_machine.specs.declared.machine.Stage.TheVariants.{Opening}
use Rattle.session_machine.specs.declared.machine.Point.{Point}
use Rattle.session_machine.specs.declared.machine.Point.TheVariants.{Resting, EnterDue, ReplyDue}
use Rattle.session_machine.specs.Rules.{due, called, granted, in_phase, with_view}
use Rattle.session_machine.specs.Allowed.{is_granted_or_spent}
use Rattle.one_copy_model.specs.declared.event.Event.TheVariants.{Of}
use Rattle.one_copy_model.specs.World.{MayHappen}
use Rattle.one_copy_model.specs.Places.{place_of, opening_of}
use Rattle.one_copy_model.specs.Deaths.{stage_at}
use Rattle.one_copy_model.specs.Tracking.{Told, Tracked, tracked_after}
use Rattle.one_copy_model.specs.Orders.{OrderAt, IsClassedAt}
use Rattle.one_copy_model.specs.Standing.{standing_in, Nowhere, Ahead, Leaving, standing_by, standing_open}
use Rattle.one_copy_model.specs.Invariant.{Invariant, FitsPoint, where_live, wants_of}
use Rattle.one_copy_model.specs.Own.{told_by, stand, IsIn, pools_counts}
use Rattle.one_copy_model.proofs.Counts.{Moves, still}
use Rattle.one_copy_model.proofs.Turning.{facts_of, live_there}
use Rattle.one_copy_model.proofs.Quiet.{real, calm_silent, quiet_holds}
use Rattle.pool_base.specs.declared.backend_id.BackendId.{BackendId}
use Rattle.one_copy_model.specs.Invariant.{inserted_in}
use Rattle.one_copy_model.proofs.Calm.{calm_own, free_of, is_waiting}
use Rattle.one_copy_model.proofs.Beginning.{none_told, fresh_order}
use Rattle.one_copy_model.proofs.Livings.{not_live}
use Rattle.one_copy_model.proofs.Finding.{nobody_attached}
use Rattle.one_copy_laws.proofs.GateCalling.{called_to, lands_call}
use Rattle.one_copy_laws.proofs.GateFinishing.{under_way}
use Rattle.one_copy_model.specs.Places.{code_in}
use Rattle.one_copy_laws.proofs.GateGoing.{goes_on, places_dead}
use Rattle.session_machine.specs.Codes.{counts_spent, no_backend}
use Rattle.session_machine.specs.Rules.{failing, error_of, refused_at, snapshot_entered, begun}
use Rattle.one_copy_model.specs.Tracking.{told_spent}
use Rattle.one_copy_model.specs.Orders.{IsStatement}
use Rattle.pool_base.specs.declared.backend_set.BackendSet.{BackendSet}
use Rattle.session_machine.specs.Answers.{lowest}
use Rattle.one_copy_laws.proofs.GateStranding.{strands, right_nobody}
use Rattle.one_copy_laws.proofs.GateSnapping.{Enters, enters, spent_stays, enter_moves, enter_due, enter_phase}

spent_of : (x : Option Told) (told : Told) → told_spent x ≡ Some told → (old : Told) × (x ≡ Some old) × (told ≡ record old { spent = true })
spent_of None told e = absurd (let z : None ≡ Some told = e in cc)
spent_of (Some old) told e = (old, refl, (let same : record old { spent = true } ≡ told = (let z : Some (record old { spent = true }) ≡ Some told = e in cc) in sym same))

spent_some : (x : Option Told) → is_some x ≡ true → is_some (told_spent x) ≡ true
spent_some (Some old) e = refl
spent_some None e = e

module _ (t : Tracked) (h : Invariant t) (s : SessionId) (work : Work) (at : (t.world.machine s.number).point ≡ EnterDue work) where
  abbrev m : Machine
  m = t.world.machine s.number

  abbrev attached : ℕ
  attached = t.world.gate.attached.bits

  abbrev mail : ℕ → Option Answer
  mail = t.world.mail s.number

  out : m.session.gate ≡ phases.Out
  out = enter_phase m.point m.session.gate work at (h.inside s.number)

  nowhere : (b : ℕ) → stand m mail b ≡ Nowhere
  nowhere b = ap (λ (p : Point). standing_by m.session.gate p (stage_at p) (told_by m mail b)) at ∙ ap standing_open out

  dead : live_there t s.number ≡ false
  dead = not_live t h s.number (λ b asked here e. let z : Nowhere ≡ Ahead asked = sym (nowhere b) ∙ e in cc)

  free : is_waiting m.point ≡ false
  free = ap is_waiting at

  awake : m.point ≡ Resting → ⊥
  awake rest = let z : EnterDue work ≡ Resting = sym at ∙ rest in cc

  wanted : wants_of m.point (stage_at m.point) ≡ None
  wanted = ap (λ (p : Point). wants_of p (stage_at p)) at

  -- the counts are spent
  spent_holds : Invariant (called_to t s calls.EnterSnapshot Spent t.world.gate (due (failing m.session) (ReplyDue (error_of counts_spent))) t.history (told_spent (t.orders s.number)) (t.done s.number))
  spent_holds =
      let n : Machine = due (failing m.session) (ReplyDue (error_of counts_spent)) in
      let same : (b : ℕ) → stand n mail b ≡ stand m mail b = λ b. ap standing_open out ∙ sym (nowhere b) in
      quiet_holds t h s n t.world.gate (told_spent (t.orders s.number)) (t.done s.number) refl
      (still t.world.gate t.world.machine m.session.gate m.session.gate refl (facts_of t h).counts)
      (calm_silent t.world.tables attached t.history m n mail (λ b here. same b) (ap stage_at at) refl (λ e. e))
      (calm_own t.world.tables attached t.history t.world.store m mail (t.orders s.number) (t.done s.number) (live_there t s.number) s.number
      (real s) (free_of m.point free) n (told_spent (t.orders s.number)) (t.done s.number) refl ((facts_of t h).own s.number)
      (subst (FitsPoint None (ReplyDue (error_of counts_spent))) (sym out) refl) tt (λ b here. same b) (λ written e. e)
      (ap (where_live (live_there t s.number)) (sym wanted))
      (λ told outcome e f. let o = spent_of (t.orders s.number) told e in
      inr (pools_counts (ap (λ (x : Told). x.spent) o.2) dead (let w : error_of counts_spent ≡ outcome = (let z : Some (error_of counts_spent) ≡ Some outcome = f in cc) in sym w)))
      (spent_some (t.orders s.number) (under_way m.point (t.orders s.number) awake (h.orders s.number)))
      (λ told e. tt)
      (λ told e. let o = spent_of (t.orders s.number) told e in subst (λ (x : Told). x.entries ≤ length t.history) (sym o.2) (h.since s.number o.0 o.1))
      (λ b told e entered here f. let o = spent_of (t.orders s.number) told e in
      h.done_first s.number b o.0 o.1 (sym (ap (λ (x : Told). x.entered) o.2) ∙ entered) here (λ x. let z : Nowhere ≡ Leaving = sym (nowhere b) ∙ x in cc)))

  -- the snapshot is granted
  module _ (view : View) (g : Enters t.world.gate view) where
    abbrev inside : Session
    inside = in_phase (with_view m.session view) phases.InSnapshot

    abbrev next : GateState
    next = gate_granted t.world.gate calls.EnterSnapshot

    moves : Moves t.world.gate next m.session.gate phases.InSnapshot
    moves = subst (λ (p : GatePhase). Moves t.world.gate next p phases.InSnapshot) (sym out) (enter_moves t.world.gate t.world.machine (facts_of t h).counts g.alone g.unquiet)

    seen : view.attached ≡ t.world.gate.attached
    seen = ap (λ (v : View). v.attached) g.view_is

    abbrev Granted_to : Machine → Type 0
    Granted_to n = Invariant (called_to t s calls.EnterSnapshot (Granted view) next n t.history (t.orders s.number) (t.done s.number))

    enters_to : (p : Option BackendId) → lowest view.attached.bits ≡ p → Granted_to (snapshot_entered inside work p)
    enters_to None e =
        let none : (b : ℕ) → IsIn attached b → ⊥ = nobody_attached attached h.few (ap (λ (a : BackendSet). lowest a.bits) (sym seen) ∙ e) in
        strands t h s (failing inside) next (Replies (error_of no_backend)) free awake none refl
        (λ told outcome f r. right_nobody attached _ (live_there t s.number) s.number t.history told outcome none dead r)
        refl moves (λ x. absurd (let z : false ≡ true = x in cc))
    enters_to (Some b) e =
        let n : Machine = begun inside (Opening work) in
        let untold : (b : ℕ) → told_by n mail b ≡ None = none_told t.world.tables attached t.history t.history t.world.store m mail (t.orders s.number) (t.done s.number) (live_there t s.number) s.number (real s) (free_of m.point free) ((facts_of t h).own s.number) n refl in
        goes_on t h s n next free awake refl
        (λ b stage here f. untold b) refl
        (subst (IsClassedAt t.world.tables) at (h.classed s.number))
        (λ stage f. fresh_order attached n stage refl refl)
        (λ b here. ap (standing_in (Opening work)) (untold b) ∙ sym (nowhere b))
        (λ b here x. let z : Nowhere ≡ Leaving = sym (nowhere b) ∙ x in cc)
        (λ u written f alive. absurd (let z : phases.InSnapshot ≡ phases.Live false written = f in cc))
        (h.posts s.number ∙ ap (where_live (live_there t s.number)) wanted)
        (λ told outcome f r. absurd (let z : None ≡ Some outcome = r in cc))
        (λ is. is)
        (λ told f. let o : IsStatement m.session told work = subst (λ (p : Point). OrderAt m.session p told) at (h.order_is s.number told f) in record { checked = o.checked; body = o.body; written = o.written; status = o.status })
        refl refl moves (λ x. absurd (let z : false ≡ true = x in cc))
        (λ b here. ap (λ (p : Point). inserted_in (stage_at p) (told_by m mail b)) at ∙ sym (ap (inserted_in (Some (Opening work))) (untold b))) refl

  enter_at : (answer : GateAnswer) → is_granted_or_spent answer ≡ true → (step t.world.gate calls.EnterSnapshot).1 ≡ answer → Invariant (tracked_after t (Of s (Called calls.EnterSnapshot answer)))
  unfolding called granted
  enter_at (Granted view) fits gives =
      let g : Enters t.world.gate view = enters t.world.gate view gives in
      lands_call t s calls.EnterSnapshot (Granted view) (gate_granted t.world.gate calls.EnterSnapshot) (snapshot_entered (in_phase (with_view m.session view) phases.InSnapshot) work (lowest view.attached.bits)) t.history (t.orders s.number) (t.done s.number) refl g.next
      (ap (granted (with_view m.session view)) at)
      (places_dead (live_there t s.number) t.world s.number m (Called calls.EnterSnapshot (Granted view)) t.history dead
      (ap (λ (p : Point). code_in (place_of m.session p (Called calls.EnterSnapshot (Granted view)))) at) (inr (ap (λ (p : Point). opening_of p (Called calls.EnterSnapshot (Granted view))) at)) refl)
      refl refl (enters_to view g (lowest view.attached.bits) refl)
  enter_at Spent fits gives =
      lands_call t s calls.EnterSnapshot Spent t.world.gate (due (failing m.session) (ReplyDue (error_of counts_spent))) t.history (told_spent (t.orders s.number)) (t.done s.number) refl (spent_stays t.world.gate gives)
      (ap (λ (p : GatePhase). refused_at false m.session p (error_of counts_spent)) out)
      (places_dead (live_there t s.number) t.world s.number m (Called calls.EnterSnapshot Spent) t.history dead refl (inr refl) refl)
      refl refl spent_holds
  enter_at (Seen view) fits gives = absurd (let z : false ≡ true = fits in cc)
  enter_at (Held count) fits gives = absurd (let z : false ≡ true = fits in cc)

pub enter_snapshot_kept : (t : Tracked) (s : SessionId) (answer : GateAnswer) → Invariant t → MayHappen t.world (Of s (Called calls.EnterSnapshot answer)) → Invariant (tracked_after t (Of s (Called calls.EnterSnapshot answer)))
enter_snapshot_kept t s answer h may =
    let d = enter_due (t.world.machine s.number).session (t.world.machine s.number).point may.0.0 in
    enter_at t h s d.0 d.1 answer may.0.1 may.1.1

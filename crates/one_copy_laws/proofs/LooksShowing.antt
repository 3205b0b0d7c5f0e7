-- A Look of a session that is to show the backends.
use Rattle.std.proofs.Common.{◌≡◌, ℕ, false, refl, sym, ap, ◌∙◌, subst, inr}
use Rattle.std.specs.Prelude.{Option, Some, None}
use Rattle.pool_base.specs.declared.session_id.SessionId.{SessionId}
use Rattle.pool_base.specs.declared.gate_call.View.{View}
use Rattle.pool_base.specs.declared.gate_call.GateCall.TheVariants as calls
use Rattle.pool_base.specs.declared.gate_call.GateAnswer.{GateAnswer}
use Rattle.pool_base.specs.declared.gate_call.GateAnswer.TheVariants.{Seen}
use Rattle.backend_trait.specs.declared.answer.Answer.{Answer}
use Rattle.snapshot_gate.specs.Function.{view_of}
use Rattle.session_machine.specs.declared.action.SessionEvent.TheVariants.{Called}
use Rattle.session_orders.specs.declared.outcome.Outcome.{Outcome}
use Rattle.session_orders.specs.declared.outcome.Outcome.TheVariants as outcomes
use Rattle.session_machine.specs.declared.machine.GatePhase.{GatePhase}
use Rattle.session_machine.specs.declared.machine.GatePhase.TheVariants as phases
use Rattle.session_machine.specs.declared.machine.Machine.{Machine}
use Rattle.session_machine.specs.declared.machine.Session.{Session}
use Rattle.session_machine.specs.declared.machine.Ending.TheVariants.{Replies}
use Rattle.session_machine.specs.declared.machine.Point.{Point}
use Rattle.session_machine.specs.declared.machine.Point.TheVariants.{Resting, ShowDue, ReplyDue}
use Rattle.session_machine.specs.Rules.{due, called, granted, with_view}
use Rattle.one_copy_model.specs.declared.event.Event.TheVariants.{Of}
use Rattle.one_copy_model.specs.World.{MayHappen}
use Rattle.one_copy_model.specs.Places.{place_of, refused_opening}
use Rattle.one_copy_model.specs.Deaths.{stage_at}
use Rattle.one_copy_model.specs.Tracking.{Tracked, tracked_after}
use Rattle.one_copy_model.specs.Orders.{OrderAt}
use Rattle.one_copy_model.specs.Standing.{standing_by, standing_open}
use Rattle.one_copy_model.specs.Invariant.{Invariant, FitsPoint, where_live, wants_of}
use Rattle.one_copy_model.specs.Own.{told_by, stand, IsIn, pools_nodes}
use Rattle.one_copy_model.proofs.Counts.{still}
use Rattle.one_copy_model.proofs.Turning.{facts_of, live_there}
use Rattle.one_copy_model.proofs.Landing.{places_none}
use Rattle.one_copy_model.proofs.Quiet.{real, calm_silent, quiet_holds}
use Rattle.pool_base.specs.declared.backend_id.BackendId.{BackendId}
use Rattle.one_copy_model.proofs.Calm.{calm_own, free_of, is_waiting}
use Rattle.one_copy_model.proofs.Finding.{nobody_attached}
use Rattle.one_copy_laws.proofs.GateCalling.{called_to, lands_call, seen_view}
use Rattle.one_copy_laws.proofs.GateFinishing.{under_way}
use Rattle.one_copy_laws.proofs.GateGoing.{none_lives}
use Rattle.session_machine.specs.Codes.{no_backend}
use Rattle.session_machine.specs.Rules.{failing, error_of, shown}
use Rattle.session_machine.specs.Answers.{lowest}
use Rattle.one_copy_laws.proofs.GateStranding.{released_is, strands, right_nobody}

pub seen_is : (a b : View) → Seen a ≡ Seen b → b ≡ a
seen_is a b e = let z : a ≡ b = cc in sym z

show_fits : (phase : GatePhase) (outcome : Outcome) → FitsPoint None ShowDue phase → FitsPoint None (ReplyDue outcome) phase
show_fits phases.Out outcome e = refl
show_fits (phases.Live changed written) outcome e = refl
show_fits phases.InSnapshot outcome e = absurd (cc)
show_fits phases.InCommit outcome e = absurd (cc)

module _ (t : Tracked) (h : Invariant t) (s : SessionId) (view : View) (seen : view ≡ view_of t.world.gate) (at : (t.world.machine s.number).point ≡ ShowDue) where
  abbrev m : Machine
  m = t.world.machine s.number

  abbrev attached : ℕ
  attached = t.world.gate.attached.bits

  abbrev mail : ℕ → Option Answer
  mail = t.world.mail s.number

  abbrev looks : Session
  looks = with_view m.session view

  abbrev Looked_to : Machine → Type 0
  Looked_to n = Invariant (called_to t s calls.Look (Seen view) t.world.gate n t.history (t.orders s.number) (t.done s.number))

  awake : m.point ≡ Resting → ⊥
  awake rest = let z : ShowDue ≡ Resting = sym at ∙ rest in cc

  opened : (b : ℕ) → stand m mail b ≡ standing_open m.session.gate
  opened b = ap (λ (p : Point). standing_by m.session.gate p (stage_at p) (told_by m mail b)) at

  shows : (p : Option BackendId) → lowest attached ≡ p → Looked_to (shown looks p)
  shows None e =
      let none : (b : ℕ) → IsIn attached b → ⊥ = nobody_attached attached h.few e in
      let dead : live_there t s.number ≡ false = none_lives t h s.number none in
      subst Looked_to (sym (released_is (failing looks) m.session.gate (Replies (error_of no_backend))))
      (strands t h s (failing looks) t.world.gate (Replies (error_of no_backend)) (ap is_waiting at) awake none refl
      (λ told outcome f r. right_nobody attached _ (live_there t s.number) s.number t.history told outcome none dead r)
      refl (still t.world.gate t.world.machine m.session.gate m.session.gate refl (facts_of t h).counts) (λ x. x))
  shows (Some b) e =
      let n : Machine = due looks (ReplyDue (outcomes.Nodes view.attached)) in
      quiet_holds t h s n t.world.gate (t.orders s.number) (t.done s.number) refl
      (still t.world.gate t.world.machine m.session.gate m.session.gate refl (facts_of t h).counts)
      (calm_silent t.world.tables attached t.history m n mail (λ c here. sym (opened c)) (ap stage_at at) refl (λ x. x))
      (calm_own t.world.tables attached t.history t.world.store m mail (t.orders s.number) (t.done s.number) (live_there t s.number) s.number
      (real s) (free_of m.point (ap is_waiting at)) n (t.orders s.number) (t.done s.number) refl ((facts_of t h).own s.number)
      (show_fits m.session.gate (outcomes.Nodes view.attached) (subst (λ (p : Point). FitsPoint (stage_at p) p m.session.gate) at (h.inside s.number))) tt
      (λ c here. sym (opened c)) (λ written f. f)
      (ap (where_live (live_there t s.number)) (sym (ap (λ (p : Point). wants_of p (stage_at p)) at)))
      (λ told outcome f g. inr (pools_nodes (subst (λ (p : Point). OrderAt m.session p told) at (h.order_is s.number told f)) (let z : Some (outcomes.Nodes view.attached) ≡ Some outcome = g in let same : outcomes.Nodes view.attached ≡ outcome = cc in sym same)))
      (under_way m.point (t.orders s.number) awake (h.orders s.number))
      (λ told f. tt) (h.since s.number)
      (λ c told f entered here g. h.done_first s.number c told f entered here (λ x. g (sym (opened c) ∙ x))))

  pub show_looked : Invariant (tracked_after t (Of s (Called calls.Look (Seen view))))
  unfolding called granted
  show_looked =
      lands_call t s calls.Look (Seen view) t.world.gate (shown looks (lowest view.attached.bits)) t.history (t.orders s.number) (t.done s.number) refl refl
      (ap (granted looks) at)
      (places_none (live_there t s.number) t.world s.number m (Called calls.Look (Seen view)) t.history
      (ap (λ (p : Point). place_of m.session p (Called calls.Look (Seen view))) at) refl
      (ap (λ (p : Point). refused_opening m.session p (Called calls.Look (Seen view))) at))
      refl refl
      (subst (λ x. Looked_to (shown looks x)) (ap (λ (v : View). lowest v.attached.bits) (sym seen)) (shows (lowest attached) refl))

pub shown_kept : (t : Tracked) (s : SessionId) (answer : GateAnswer) → Invariant t → (t.world.machine s.number).point ≡ ShowDue → MayHappen t.world (Of s (Called calls.Look answer)) → Invariant (tracked_after t (Of s (Called calls.Look answer)))
shown_kept t s answer h at may =
    let v = seen_view answer may.0.1 in
    subst (λ (a : GateAnswer). Invariant (tracked_after t (Of s (Called calls.Look a)))) (sym v.1)
    (show_looked t h s v.0 (seen_is (view_of t.world.gate) v.0 (may.1.1 ∙ v.1)) at)

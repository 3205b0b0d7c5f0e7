-- A Look at the end of a chain that decides nothing: the Look is due again.
use Rattle.std.proofs.Common.{◌≡◌, ℕ, Bool, true, false, List, [], refl, sym, ap, ◌∙◌, subst, inl, inr}
use Rattle.std.specs.Prelude.{◌⊎◌, Option, Some, None}
use Rattle.pool_base.specs.declared.session_id.SessionId.{SessionId}
use Rattle.pool_base.specs.declared.backend_id.BackendId.{BackendId}
use Rattle.pool_base.specs.declared.gate_call.View.{View}
use Rattle.pool_base.specs.declared.gate_call.GateCall.TheVariants as calls
use Rattle.pool_base.specs.declared.gate_call.GateAnswer.{GateAnswer}
use Rattle.pool_base.specs.declared.gate_call.GateAnswer.TheVariants.{Seen}
use Rattle.backend_trait.specs.declared.answer.Answer.{Answer}
use Rattle.snapshot_gate.specs.Function.{view_of}
use Rattle.session_machine.specs.declared.action.Action.TheVariants as actions
use Rattle.session_machine.specs.declared.action.SessionEvent.TheVariants.{Called}
use Rattle.session_machine.specs.declared.machine.Heard.{Heard}
use Rattle.session_machine.specs.declared.machine.Machine.{Machine}
use Rattle.session_machine.specs.declared.machine.Session.{Session}
use Rattle.session_machine.specs.declared.machine.Stage.{Stage}
use Rattle.session_machine.specs.declared.machine.Stage.TheVariants.{Opening, Reading, Running, Locking, Inserting, Committing, Closing, RollingBack}
use Rattle.session_machine.specs.declared.machine.Point.TheVariants.{LookDue, SplitDue}
use Rattle.session_machine.specs.Answers.{lowest, next_of, kept, first_other, goes_on as chain_goes_on}
use Rattle.session_machine.specs.Rules.{due, called, granted, with_view, primary, kind_of, asked, looked_at, judged, split, decided}
use Rattle.one_copy_model.specs.declared.event.Event.TheVariants.{Of}
use Rattle.one_copy_model.specs.World.{MayHappen}
use Rattle.one_copy_model.specs.Places.{closing_look, closing_chain, kept_of, one_kept, where_decided, where_refused, at_granted, refused_look}
use Rattle.one_copy_model.specs.Deaths.{stage_at}
use Rattle.one_copy_model.specs.Tracking.{Tracked, tracked_after}
use Rattle.one_copy_model.specs.Chains.{goes_up, IsInOrder}
use Rattle.one_copy_model.specs.Invariant.{Invariant, inserted_in}
use Rattle.one_copy_model.specs.Own.{told_by, Own}
use Rattle.one_copy_model.proofs.Counts.{still}
use Rattle.one_copy_model.proofs.Calm.{free_of, is_waiting}
use Rattle.one_copy_model.proofs.Turning.{facts_of, live_there}
use Rattle.one_copy_model.proofs.Landing.{places_none}
use Rattle.one_copy_model.proofs.Quiet.{real, stands_silent, quiet_holds}
use Rattle.one_copy_laws.proofs.GateCalling.{called_to, lands_call, seen_view}
use Rattle.one_copy_laws.proofs.ChainsChaining.{chain_own, stand_same, inserts_same}
use Rattle.one_copy_laws.proofs.LooksShowing.{seen_is}
use Rattle.one_copy_laws.proofs.LooksNexts.{looked_is, closing_is}

one_onward : (v : Bool) (other : Option Heard) (answer : Answer) → v ≡ true → one_kept v other answer ≡ None
one_onward true other answer e = refl
one_onward false other answer e = absurd (let z : false ≡ true = e in cc)

-- nobody's answer is kept; or none differs from it, and the chain asks on
abbrev IsUndecided : ℕ → List Heard → Type 0
IsUndecided attached heard =
    (kept attached heard ≡ None)
    ⊎ ((best : Heard) × (kept attached heard ≡ Some best) × (first_other attached best.answer 0 heard ≡ None) × (chain_goes_on attached heard best.answer ≡ true))

module _ (t : Tracked) (h : Invariant t) (s : SessionId) (view : View) (seen : view ≡ view_of t.world.gate) (stage : Stage) (at : (t.world.machine s.number).point ≡ LookDue stage)
    (up : goes_up stage ≡ true) (shut : next_of (kind_of stage) t.world.gate.attached.bits (t.world.machine s.number).session.heard ≡ None)
    (first : BackendId) (there : lowest t.world.gate.attached.bits ≡ Some first)
    (open_yet : IsUndecided t.world.gate.attached.bits (t.world.machine s.number).session.heard) where
  abbrev m : Machine
  m = t.world.machine s.number

  abbrev attached : ℕ
  attached = t.world.gate.attached.bits

  abbrev mail : ℕ → Option Answer
  mail = t.world.mail s.number

  abbrev looks : Session
  looks = with_view m.session view

  abbrev n : Machine
  n = due looks (LookDue stage)

  old : Own t.world.tables attached t.history t.world.store m mail (t.orders s.number) (t.done s.number) (live_there t s.number) s.number
  old = (facts_of t h).own s.number

  free : is_waiting m.point ≡ false
  free = ap is_waiting at

  order : IsInOrder attached m stage
  order = old.in_order stage (ap stage_at at)

  seen_bits : view.attached.bits ≡ attached
  seen_bits = ap (λ (v : View). v.attached.bits) seen

  seen_open : IsUndecided view.attached.bits m.session.heard
  seen_open = subst (λ (k : ℕ). IsUndecided k m.session.heard) (sym seen_bits) open_yet

  stay_own : Own t.world.tables attached t.history t.world.store n mail (t.orders s.number) (t.done s.number) (live_there t s.number) s.number
  stay_own =
      chain_own t.world.tables attached t.history t.world.store m mail mail (t.orders s.number) (t.done s.number) (live_there t s.number) s.number (real s) old n stage (ap stage_at at) refl refl refl (λ c. refl)
      (λ c p sound e. absurd (let line = old.asked c p sound e in free_of m.point free line.stage line.at line.waits))
      old.untold
      (λ c answer e. absurd (let line = (old.answer c answer e).1 in free_of m.point free line.stage line.at line.waits))
      (record {
        rising = order.rising;
        above = λ c e. absurd (let z : None ≡ Some c = e in cc);
        below = λ c d climbs here under_it told. order.below c d climbs here under_it (elim told [ inl e ↦ absurd (let z : None ≡ Some d = e in cc) | inr e ↦ inr e ]);
        one = λ single. absurd (let z : true ≡ false = sym up ∙ single in cc);
      })
      (λ x best own among onward e. absurd (let z : LookDue stage ≡ SplitDue x best own among onward = e in cc))
      (λ c cause e. absurd (let z : actions.Gate calls.Look ≡ actions.Detach c cause = e in cc))
      (λ answer is any. absurd is)

  stays_due : Invariant (called_to t s calls.Look (Seen view) t.world.gate n t.history (t.orders s.number) (t.done s.number))
  stays_due =
      quiet_holds t h s n t.world.gate (t.orders s.number) (t.done s.number) refl
      (still t.world.gate t.world.machine m.session.gate m.session.gate refl (facts_of t h).counts)
      (stands_silent t.world.tables attached t.history m n mail mail
      (λ c here. stand_same t.world.tables attached t.history t.world.store m mail mail (t.orders s.number) (t.done s.number) (live_there t s.number) s.number (real s) old n stage (ap stage_at at) refl refl refl (λ c. refl) c)
      (λ c here. ap (λ x. inserted_in x (told_by m mail c)) (ap stage_at at)) (inserts_same m n stage (ap stage_at at) refl) (λ e. e))
      stay_own

  -- nothing is decided there
  next_seen : next_of (kind_of stage) view.attached.bits m.session.heard ≡ None
  next_seen = ap (λ k. next_of (kind_of stage) k m.session.heard) seen_bits ∙ shut

  kept_none : IsUndecided view.attached.bits m.session.heard → kept_of looks (kept view.attached.bits m.session.heard) ≡ None
  kept_none (inl none) = ap (kept_of looks) none
  kept_none (inr (best, found, same, onward)) = ap (kept_of looks) found ∙ one_onward (chain_goes_on view.attached.bits m.session.heard best.answer) (first_other view.attached.bits best.answer 0 m.session.heard) best.answer onward

  look_none : (p : Option BackendId) → closing_look looks stage p ≡ None
  look_none None = refl
  look_none (Some b) = closing_is looks stage up ∙ ap (closing_chain looks) next_seen ∙ kept_none seen_open

  refused_none : (x : Stage) → x ≡ stage → refused_look looks (LookDue x) ≡ []
  refused_none (Opening work) e = ap where_refused (ap (λ y. closing_look looks y (primary looks)) e ∙ look_none (primary looks))
  refused_none (Reading work ticket) e = refl
  refused_none (Running work) e = refl
  refused_none (Locking work table) e = refl
  refused_none (Inserting work posted) e = refl
  refused_none Committing e = refl
  refused_none Closing e = refl
  refused_none (RollingBack ending) e = refl

  judged_again : IsUndecided view.attached.bits m.session.heard → judged looks stage (kept view.attached.bits m.session.heard) ≡ n
  judged_again (inl none) = ap (judged looks stage) none
  judged_again (inr (best, found, same, onward)) =
      ap (judged looks stage) found
      ∙ ap (split true looks stage best view.attached (chain_goes_on view.attached.bits m.session.heard best.answer)) same
      ∙ ap (decided true looks stage best.answer) onward

  goes_to : looked_at looks stage (lowest view.attached.bits) ≡ n
  unfolding asked
  goes_to = ap (looked_at looks stage) (ap lowest seen_bits ∙ there) ∙ looked_is looks stage up ∙ ap (asked looks stage) next_seen ∙ judged_again seen_open

  pub look_stays : Invariant (tracked_after t (Of s (Called calls.Look (Seen view))))
  unfolding called granted asked
  look_stays =
      lands_call t s calls.Look (Seen view) t.world.gate n t.history (t.orders s.number) (t.done s.number) refl refl
      (ap (granted looks) at ∙ goes_to)
      (places_none (live_there t s.number) t.world s.number m (Called calls.Look (Seen view)) t.history
      (ap (at_granted looks) at ∙ ap (where_decided stage) (look_none (primary looks))) refl
      (ap (refused_look looks) at ∙ refused_none stage refl))
      refl refl stays_due

stays_kept : (t : Tracked) (s : SessionId) (answer : GateAnswer) (stage : Stage) (first : BackendId) → Invariant t → (t.world.machine s.number).point ≡ LookDue stage → goes_up stage ≡ true
    → next_of (kind_of stage) t.world.gate.attached.bits (t.world.machine s.number).session.heard ≡ None
    → lowest t.world.gate.attached.bits ≡ Some first
    → IsUndecided t.world.gate.attached.bits (t.world.machine s.number).session.heard
    → MayHappen t.world (Of s (Called calls.Look answer)) → Invariant (tracked_after t (Of s (Called calls.Look answer)))
stays_kept t s answer stage first h at up shut there open_yet may =
    let v = seen_view answer may.0.1 in
    subst (λ (a : GateAnswer). Invariant (tracked_after t (Of s (Called calls.Look a)))) (sym v.1)
    (look_stays t h s v.0 (seen_is (view_of t.world.gate) v.0 (may.1.1 ∙ v.1)) stage at up shut first there open_yet)

pub unkept : (t : Tracked) (s : SessionId) (answer : GateAnswer) (stage : Stage) (first : BackendId) → Invariant t → (t.world.machine s.number).point ≡ LookDue stage → goes_up stage ≡ true
    → next_of (kind_of stage) t.world.gate.attached.bits (t.world.machine s.number).session.heard ≡ None
    → lowest t.world.gate.attached.bits ≡ Some first
    → kept t.world.gate.attached.bits (t.world.machine s.number).session.heard ≡ None
    → MayHappen t.world (Of s (Called calls.Look answer)) → Invariant (tracked_after t (Of s (Called calls.Look answer)))
unkept t s answer stage first h at up shut there none may = stays_kept t s answer stage first h at up shut there (inl none) may

pub onward : (t : Tracked) (s : SessionId) (answer : GateAnswer) (stage : Stage) (first : BackendId) (best : Heard) → Invariant t → (t.world.machine s.number).point ≡ LookDue stage → goes_up stage ≡ true
    → next_of (kind_of stage) t.world.gate.attached.bits (t.world.machine s.number).session.heard ≡ None
    → lowest t.world.gate.attached.bits ≡ Some first
    → kept t.world.gate.attached.bits (t.world.machine s.number).session.heard ≡ Some best
    → first_other t.world.gate.attached.bits best.answer 0 (t.world.machine s.number).session.heard ≡ None
    → chain_goes_on t.world.gate.attached.bits (t.world.machine s.number).session.heard best.answer ≡ true
    → MayHappen t.world (Of s (Called calls.Look answer)) → Invariant (tracked_after t (Of s (Called calls.Look answer)))
onward t s answer stage first best h at up shut there found same on may = stays_kept t s answer stage first h at up shut there (inr (best, found, same, on)) may

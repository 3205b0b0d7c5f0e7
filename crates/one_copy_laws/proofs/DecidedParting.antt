-- A backend is detached: the facts over those that are left, and the event by where it leads and what it places.
use Rattle.std.proofs.Common.{◌≡◌, ℕ, ◌<◌, Bool, List, refl, sym, ap, ◌∙◌, subst}
use Rattle.std.specs.Prelude.{Option, Some}
use Rattle.pool_base.specs.Sets.{has}
use Rattle.pool_base.specs.declared.session_id.SessionId.{SessionId}
use Rattle.pool_base.specs.declared.backend_id.BackendId.{BackendId}
use Rattle.pool_base.specs.declared.gate_call.GateCall.TheVariants as calls
use Rattle.backend_trait.specs.declared.answer.Answer.{Answer}
use Rattle.backend_trait.specs.Rows.{with_at}
use Rattle.snapshot_gate.specs.declared.state.GateState.{GateState}
use Rattle.snapshot_gate.specs.Function.{step}
use Rattle.session_machine.specs.declared.action.Cause.{Cause}
use Rattle.session_machine.specs.declared.action.SessionEvent.{SessionEvent}
use Rattle.session_machine.specs.declared.action.SessionEvent.TheVariants.{Detached}
use Rattle.session_machine.specs.declared.machine.Machine.{Machine}
use Rattle.session_machine.specs.Answers.{lowest, is_attached}
use Rattle.session_machine.specs.Rules.{after_at, detached}
use Rattle.one_copy_model.specs.declared.deed.Entry.{Entry}
use Rattle.one_copy_model.specs.declared.event.Event.TheVariants.{Of}
use Rattle.one_copy_model.specs.SingleRun.{store_after}
use Rattle.one_copy_model.specs.World.{World, after}
use Rattle.one_copy_model.specs.Places.{place_of}
use Rattle.one_copy_model.specs.Deaths.{is_live, fallen}
use Rattle.one_copy_model.specs.Tracking.{Told, Tracked, placed, deaths_first, tracked_after}
use Rattle.one_copy_model.specs.Invariant.{Invariant}
use Rattle.one_copy_model.specs.Own.{IsIn}
use Rattle.one_copy_model.specs.Facts.{Facts, Shared, CountedBy}
use Rattle.one_copy_model.proofs.Counts.{counted}
use Rattle.one_copy_model.proofs.Fewer.{fewer_own}
use Rattle.one_copy_model.proofs.Silent.{silent}
use Rattle.one_copy_model.proofs.Turning.{FactsOf, facts_of, live_there}
use Rattle.one_copy_model.proofs.Landing.{with_at-self}
use Rattle.one_copy_model.proofs.Quiet.{below_65, stands_silent}
use Rattle.one_copy_model.proofs.Finding.{is_found, one_of_eight}
use Rattle.one_copy_laws.proofs.FallsDying.{falls_kept}
use Rattle.one_copy_laws.proofs.FallsLeaving.{few_left, fewer_in, left_moves}

module _ (t : Tracked) (h : Invariant t) (s : SessionId) (b : BackendId) where
  abbrev m : Machine
  m = t.world.machine s.number

  abbrev pub gate : GateState
  gate = (step t.world.gate (calls.Detach b)).0

  abbrev attached : ℕ
  attached = t.world.gate.attached.bits

  abbrev pub left : ℕ
  left = gate.attached.bits

  pub few : left < 256
  few = few_left t.world.gate b (has attached b.number) h.few

  pub less : (k : ℕ) → IsIn left k → IsIn attached k
  less k e = fewer_in t.world.gate b (has attached b.number) h.few k (one_of_eight left k few e) e

  -- the same moment with the backends that are left
  abbrev pub behind : Tracked
  behind = record {
    world = record { tables = t.world.tables; gate = gate; machine = t.world.machine; store = t.world.store; mail = t.world.mail };
    history = t.history;
    orders = t.orders;
    done = t.done;
  }

  pub facts_left : FactsOf behind
  facts_left =
      let f : FactsOf t = facts_of t h in
      record {
        own = λ o. fewer_own t.world.tables attached left less t.history t.world.store (t.world.machine o) (t.world.mail o) (t.orders o) (t.done o) (live_there t o) o (f.own o);
        shared =
            subst (λ (y : ℕ → Machine). Shared t.world.tables left t.history t.world.store y t.world.mail) (with_at-self t.world.machine s.number)
            (subst (λ (y : ℕ → ℕ → Option Answer). Shared t.world.tables left t.history t.world.store (with_at t.world.machine s.number m) y) (with_at-self t.world.mail s.number)
            (silent t.world.tables attached left t.history t.world.store t.world.machine t.world.mail s.number m (t.world.mail s.number) less
            (stands_silent t.world.tables left t.history m m (t.world.mail s.number) (t.world.mail s.number) (λ k here. refl) (λ k here. refl) (λ table i. i) (λ e. e))
            f.shared));
        counts =
            subst (CountedBy gate) (with_at-self t.world.machine s.number)
            (counted t.world.machine s.number m (below_65 s) t.world.gate gate (left_moves t.world.gate b (has attached b.number) t.world.machine m.session.gate f.counts) f.counts);
      }

  abbrev pub led : Machine → World
  led n = record { tables = t.world.tables; gate = gate; machine = with_at t.world.machine s.number n; store = t.world.store; mail = t.world.mail }

  abbrev pub FactsLed : Machine → List Entry → Type 0
  FactsLed n mid = Facts t.world.tables gate (with_at t.world.machine s.number n) t.world.store t.world.mail mid t.orders t.done (λ o. is_live ((store_after t.world.tables mid).transaction o))

  module _ (cause : Cause) (n : Machine) (mid : List Entry)
      (leads : detached m.session m.point (step t.world.gate (calls.Detach b)).1 ≡ n)
      (calm : (w : World) → deaths_first w (Detached b cause (step t.world.gate (calls.Detach b)).1) (place_of m.session m.point (Detached b cause (step t.world.gate (calls.Detach b)).1)) t.history ≡ t.history)
      (places : placed (live_there t s.number) t.world s.number m (Detached b cause (step t.world.gate (calls.Detach b)).1) t.history ≡ mid) where
    abbrev event : SessionEvent
    event = Detached b cause (step t.world.gate (calls.Detach b)).1

    abbrev set_down : World → List Entry
    set_down w = placed (live_there t s.number) t.world s.number m event (deaths_first w event (place_of m.session m.point event) t.history)

    sets : (w : World) → set_down w ≡ mid
    sets w = ap (placed (live_there t s.number) t.world s.number m event) (calm w) ∙ places

    abbrev Led_to : Machine → List Entry → (ℕ → Option Told) → (ℕ → ℕ → Bool) → Type 0
    Led_to y more by did = (w : World) → w ≡ led y → Invariant (record { world = w; history = fallen w more 65; orders = by; done = did })

    -- from the invariant behind those that die
    pub lands_fallen : Invariant (record { world = led n; history = fallen (led n) mid 65; orders = t.orders; done = t.done }) → Invariant (tracked_after t (Of s event))
    unfolding after_at
    lands_fallen fell =
        (subst (λ (by : ℕ → Option Told). Led_to (detached m.session m.point (step t.world.gate (calls.Detach b)).1) (set_down (after t.world (Of s event))) by (with_at t.done s.number (t.done s.number))) (sym (with_at-self t.orders s.number))
        (subst (λ (did : ℕ → ℕ → Bool). Led_to (detached m.session m.point (step t.world.gate (calls.Detach b)).1) (set_down (after t.world (Of s event))) t.orders did) (sym (with_at-self t.done s.number))
        (subst (λ (more : List Entry). Led_to (detached m.session m.point (step t.world.gate (calls.Detach b)).1) more t.orders t.done) (sym (sets (after t.world (Of s event))))
        (subst (λ (y : Machine). Led_to y mid t.orders t.done) (sym leads)
        (λ w e. subst (λ (v : World). Invariant (record { world = v; history = fallen v mid 65; orders = t.orders; done = t.done })) (sym e) fell)))))
        (after t.world (Of s event)) refl

    -- from the facts before that, where another is attached
    pub lands_left : (first : BackendId) → lowest left ≡ Some first → FactsLed n mid → Invariant (tracked_after t (Of s event))
    lands_left first there facts = lands_fallen (falls_kept (led n) mid t.orders t.done first.number facts (is_found (is_attached left) first there))

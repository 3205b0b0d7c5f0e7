-- A call of the gate by the point to which it leads.
use Rattle.std.proofs.Common.{◌≡◌, ℕ, Bool, true, false, List, refl, sym, ap, ◌∙◌, subst, inl, inr}
use Rattle.std.specs.Prelude.{Option, None}
use Rattle.pool_base.specs.declared.session_id.SessionId.{SessionId}
use Rattle.pool_base.specs.declared.gate_call.View.{View}
use Rattle.pool_base.specs.declared.gate_call.GateCall.{GateCall}
use Rattle.pool_base.specs.declared.gate_call.GateAnswer.{GateAnswer}
use Rattle.pool_base.specs.declared.gate_call.GateAnswer.TheVariants.{Seen, Granted, Held, Spent}
use Rattle.backend_trait.specs.Rows.{with_at}
use Rattle.snapshot_gate.specs.declared.state.GateState.{GateState}
use Rattle.snapshot_gate.specs.Function.{step}
use Rattle.session_machine.specs.declared.action.SessionEvent.TheVariants.{Called}
use Rattle.session_orders.specs.declared.outcome.Outcome.{Outcome}
use Rattle.session_machine.specs.declared.machine.Machine.{Machine}
use Rattle.session_machine.specs.Rules.{after_at, called}
use Rattle.session_machine.specs.Allowed.{is_seen, is_granted}
use Rattle.one_copy_model.specs.declared.deed.Entry.{Entry}
use Rattle.one_copy_model.specs.declared.event.Event.TheVariants.{Of}
use Rattle.one_copy_model.specs.World.{after}
use Rattle.one_copy_model.specs.Deaths.{fallen}
use Rattle.one_copy_model.specs.Tracking.{Told, Tracked, tracked_after, placed, told_called, done_called, attached_in, joined}
use Rattle.one_copy_model.specs.Orders.{lists}
use Rattle.one_copy_model.specs.Invariant.{Invariant}
use Rattle.one_copy_model.specs.Own.{IsRightBy, pools_moment, pools_counts, pools_backends, pools_refusal, pools_nodes}
use Rattle.one_copy_model.proofs.Turning.{live_there}
use Rattle.one_copy_model.proofs.Landing.{lands}

module _ (t : Tracked) (s : SessionId) (call : GateCall) (answer : GateAnswer) where
  abbrev pub its : Machine
  its = t.world.machine s.number

  abbrev pub called_to : GateState → Machine → List Entry → Option Told → (ℕ → Bool) → Tracked
  called_to next n mid by did = record {
    world = record { tables = t.world.tables; gate = next; machine = with_at t.world.machine s.number n; store = t.world.store; mail = t.world.mail };
    history = mid;
    orders = with_at t.orders s.number by;
    done = with_at t.done s.number did;
  }

  pub lands_call : (next : GateState) (n : Machine) (mid : List Entry) (by : Option Told) (did : ℕ → Bool) → attached_in (Called call answer) ≡ None
      → (step t.world.gate call).0 ≡ next → called its.session its.point answer ≡ n
      → placed (live_there t s.number) t.world s.number its (Called call answer) t.history ≡ mid
      → told_called call answer (t.orders s.number) ≡ by
      → done_called call answer (t.done s.number) ≡ did
      → Invariant (called_to next n mid by did) → Invariant (tracked_after t (Of s (Called call answer)))
  unfolding after_at
  lands_call next n mid by did joins gate to is told done holds =
      lands t (Of s (Called call answer)) mid (ap (λ (x : List Entry). fallen (after t.world (Of s (Called call answer))) x 65) is)
      (subst (λ (x : Option ℕ). Invariant (record { world = after t.world (Of s (Called call answer)); history = mid; orders = with_at t.orders s.number (told_called call answer (t.orders s.number)); done = joined t.world x (with_at t.done s.number (done_called call answer (t.done s.number))) })) (sym joins)
      (subst (λ (x : ℕ → Bool). Invariant (record { world = after t.world (Of s (Called call answer)); history = mid; orders = with_at t.orders s.number (told_called call answer (t.orders s.number)); done = with_at t.done s.number x })) (sym done)
      (subst (λ (x : Option Told). Invariant (record { world = after t.world (Of s (Called call answer)); history = mid; orders = with_at t.orders s.number x; done = with_at t.done s.number did })) (sym told)
      (subst (λ (x : Machine). Invariant (record { world = record { tables = t.world.tables; gate = (step t.world.gate call).0; machine = with_at t.world.machine s.number x; store = t.world.store; mail = t.world.mail }; history = mid; orders = with_at t.orders s.number by; done = with_at t.done s.number did })) (sym to)
      (subst (λ (x : GateState). Invariant (called_to x n mid by did)) (sym gate) holds)))))

-- an answer that is granted
pub granted_view : (answer : GateAnswer) → is_granted answer ≡ true → (view : View) × (answer ≡ Granted view)
granted_view (Granted view) e = (view, refl)
granted_view (Seen view) e = absurd (cc)
granted_view (Held count) e = absurd (cc)
granted_view Spent e = absurd (cc)

pub seen_view : (answer : GateAnswer) → is_seen answer ≡ true → (view : View) × (answer ≡ Seen view)
seen_view (Seen view) e = (view, refl)
seen_view (Granted view) e = absurd (cc)
seen_view (Held count) e = absurd (cc)
seen_view Spent e = absurd (cc)

-- a reply that is no list does not look at the view
pub right_moves : (attached : ℕ) (m n : Machine) (live : Bool) (s : ℕ) (history : List Entry) (told : Told) (outcome : Outcome) → lists outcome ≡ false
    → IsRightBy attached m live s history told outcome → IsRightBy attached n live s history told outcome
right_moves attached m n live s history told outcome unlisted (inl given) = inl given
right_moves attached m n live s history told outcome unlisted (inr (pools_moment a c d)) = inr (pools_moment a c d)
right_moves attached m n live s history told outcome unlisted (inr (pools_counts a c d)) = inr (pools_counts a c d)
right_moves attached m n live s history told outcome unlisted (inr (pools_backends a c d)) = inr (pools_backends a c d)
right_moves attached m n live s history told outcome unlisted (inr (pools_refusal code name a c d)) = inr (pools_refusal code name a c d)
right_moves attached m n live s history told outcome unlisted (inr (pools_nodes a d)) = absurd (let z : false ≡ true = sym unlisted ∙ ap lists d in cc)

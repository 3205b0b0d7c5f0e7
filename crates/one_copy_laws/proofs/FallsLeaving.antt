-- A backend whose loss was seen is detached: the chain goes on with those that are left, and who was alive there alone dies.
use Rattle.std.proofs.Common.{◌≡◌, ℕ, ◌-◌, ◌^◌, ◌<◌, Bool, true, false, List, [], refl, sym, ap, ◌∙◌, subst, arith, inl, inr}
use Rattle.std.specs.Prelude.{Option, Some, None, is_some, if◌then◌else◌}
use Rattle.pool_base.specs.Sets.{has}
use Rattle.pool_base.proofs.Finite.{without_has}
use Rattle.pool_base.specs.declared.session_id.SessionId.{SessionId}
use Rattle.pool_base.specs.declared.backend_id.BackendId.{BackendId}
use Rattle.pool_base.specs.declared.gate_call.GateCall.TheVariants as calls
use Rattle.pool_base.specs.declared.gate_call.GateAnswer.{GateAnswer}
use Rattle.pool_base.specs.declared.gate_call.GateAnswer.TheVariants.{Seen}
use Rattle.backend_trait.specs.declared.answer.Answer.{Answer}
use Rattle.backend_trait.specs.Rows.{with_at}
use Rattle.snapshot_gate.specs.declared.state.GateState.{GateState}
use Rattle.snapshot_gate.specs.Function.{view_of, grant, refuse, step, Turn}
use Rattle.session_machine.specs.declared.action.Cause.{Cause}
use Rattle.session_machine.specs.declared.action.Action.TheVariants as actions
use Rattle.session_machine.specs.declared.action.SessionEvent.{SessionEvent}
use Rattle.session_machine.specs.declared.action.SessionEvent.TheVariants.{Detached}
use Rattle.session_machine.specs.declared.machine.GatePhase.{GatePhase}
use Rattle.session_machine.specs.declared.machine.Machine.{Machine}
use Rattle.session_machine.specs.declared.machine.Session.{Session}
use Rattle.session_machine.specs.declared.machine.Stage.{Stage}
use Rattle.session_machine.specs.declared.machine.Point.{Point}
use Rattle.session_machine.specs.declared.machine.Point.TheVariants.{LookDue, LostDue, SplitDue}
use Rattle.session_machine.specs.Answers.{lowest, is_attached}
use Rattle.session_machine.specs.Rules.{after_at, due, detached, with_view, lost_one}
use Rattle.one_copy_model.specs.declared.deed.Deed.{Deed}
use Rattle.one_copy_model.specs.declared.deed.Entry.{Entry}
use Rattle.one_copy_model.specs.declared.event.Event.TheVariants.{Of}
use Rattle.one_copy_model.specs.World.{World, after, MayHappen}
use Rattle.one_copy_model.specs.Places.{place_of, refused_opening}
use Rattle.one_copy_model.specs.Deaths.{stage_at, fallen}
use Rattle.one_copy_model.specs.Tracking.{Told, Tracked, placed, deaths_first, tracked_after}
use Rattle.one_copy_model.specs.Chains.{IsInOrder, IsParting, IsKept, IsRising, HasOne, asked_in}
use Rattle.one_copy_model.specs.Statement.{HasCause}
use Rattle.one_copy_model.specs.Deaths.{heard_from}
use Rattle.pool_base.specs.declared.backend_set.BackendSet.{BackendSet}
use Rattle.session_machine.specs.declared.machine.Heard.{Heard}
use Rattle.session_machine.specs.Rules.{next_action}
use Rattle.one_copy_model.specs.Own.{Speaks}
use Rattle.one_copy_model.specs.Invariant.{Invariant, inserted_in, inserting_in}
use Rattle.one_copy_model.specs.Own.{told_by, IsIn, Own}
use Rattle.one_copy_model.specs.Facts.{Facts, Shared, CountedBy}
use Rattle.one_copy_model.proofs.Places.{each_at}
use Rattle.one_copy_model.proofs.Counts.{Moves, counted}
use Rattle.one_copy_model.proofs.Fewer.{fewer_own}
use Rattle.one_copy_model.proofs.Silent.{silent}
use Rattle.one_copy_model.proofs.Turning.{FactsOf, facts_of, live_there}
use Rattle.one_copy_model.proofs.Landing.{places_none, with_at-self}
use Rattle.one_copy_model.proofs.Calm.{free_of, is_waiting}
use Rattle.one_copy_model.proofs.Quiet.{real, below_65, stands_silent}
use Rattle.one_copy_model.proofs.Beginning.{one_unasked}
use Rattle.one_copy_model.proofs.Finding.{is_found, one_of_eight}
use Rattle.one_copy_laws.proofs.ChainsChaining.{chain_own, stand_same}
use Rattle.one_copy_laws.proofs.FallsDying.{falls_kept}

-- the gate behind a detachment, whether the backend was still attached or not
abbrev pub turn_of : GateState → BackendId → Bool → Turn
turn_of g b v = if v then grant g (calls.Detach b) else refuse g (Seen (view_of g))

pub fewer_in : (g : GateState) (b : BackendId) (v : Bool) → g.attached.bits < 256 → (c : ℕ) → c < 8 → IsIn (turn_of g b v).0.attached.bits c → IsIn g.attached.bits c
fewer_in g b true few c below e = without_has g.attached.bits b.number c few b.below_8 below e
fewer_in g b false few c below e = e

less_bits : (v : Bool) (bits power : ℕ) → bits < 256 → (if v then bits - power else bits) < 256
less_bits true bits power few = omega (arith, few)
less_bits false bits power few = few

pub few_left : (g : GateState) (b : BackendId) (v : Bool) → g.attached.bits < 256 → (turn_of g b v).0.attached.bits < 256
few_left g b true few = less_bits (has g.attached.bits b.number) g.attached.bits (2 ^ b.number) few
few_left g b false few = few

pub left_moves : (g : GateState) (b : BackendId) (v : Bool) (machine : ℕ → Machine) (phase : GatePhase) → CountedBy g machine → Moves g (turn_of g b v).0 phase phase
left_moves g b true machine phase h =
    let few : (turn_of g b true).0.attached.bits < 256 = few_left g b true h.few in
    record { snaps = refl; commits = refl; live = refl; apart = h.apart; quiet = h.quiet; few = few }
left_moves g b false machine phase h = record { snaps = refl; commits = refl; live = refl; apart = h.apart; quiet = h.quiet; few = h.few }

-- where it leads, and that it places nothing
leads_to : (g : GateState) (b c first : BackendId) (v : Bool) (session : Session) (stage : Stage) (before more : ℕ) → lowest (turn_of g b v).0.attached.bits ≡ Some first
    → detached session (LostDue stage c before more) (turn_of g b v).1 ≡ due (with_view session (view_of (turn_of g b v).0)) (LookDue stage)
unfolding detached
leads_to g b c first true session stage before more e = ap (lost_one (with_view session (view_of (turn_of g b true).0)) stage) e
leads_to g b c first false session stage before more e = ap (lost_one (with_view session (view_of (turn_of g b false).0)) stage) e

place_none : (g : GateState) (b c : BackendId) (cause : Cause) (v : Bool) (session : Session) (stage : Stage) (before more : ℕ) → place_of session (LostDue stage c before more) (Detached b cause (turn_of g b v).1) ≡ []
place_none g b c cause true session stage before more = refl
place_none g b c cause false session stage before more = refl

refused_none : (g : GateState) (b c : BackendId) (cause : Cause) (v : Bool) (session : Session) (stage : Stage) (before more : ℕ) → refused_opening session (LostDue stage c before more) (Detached b cause (turn_of g b v).1) ≡ []
refused_none g b c cause true session stage before more = refl
refused_none g b c cause false session stage before more = refl

-- the chain goes on at a point of its stage
module _ (t : Tracked) (h : Invariant t) (s : SessionId) (b : BackendId) (cause : Cause) (stage : Stage) (point : Point)
    (at : stage_at (t.world.machine s.number).point ≡ Some stage) (next : stage_at point ≡ Some stage) (free : is_waiting (t.world.machine s.number).point ≡ false) where
  abbrev m : Machine
  m = t.world.machine s.number

  abbrev pub gate : GateState
  gate = (step t.world.gate (calls.Detach b)).0

  abbrev attached : ℕ
  attached = t.world.gate.attached.bits

  abbrev pub left : ℕ
  left = gate.attached.bits

  abbrev mail : ℕ → Option Answer
  mail = t.world.mail s.number

  abbrev pub n : Machine
  n = due (with_view m.session (view_of gate)) point

  pub few : left < 256
  few = few_left t.world.gate b (has attached b.number) h.few

  pub less : (k : ℕ) → IsIn left k → IsIn attached k
  less k e = fewer_in t.world.gate b (has attached b.number) h.few k (one_of_eight left k few e) e

  pub own_was : Own t.world.tables left t.history t.world.store m mail (t.orders s.number) (t.done s.number) (live_there t s.number) s.number
  own_was = fewer_own t.world.tables attached left less t.history t.world.store m mail (t.orders s.number) (t.done s.number) (live_there t s.number) s.number ((facts_of t h).own s.number)

  pub order : IsInOrder left m stage
  order = own_was.in_order stage at

  module _ (in_order : IsInOrder left n stage)
      (parting : (x : Stage) (best own : Heard) (among : BackendSet) (more : Bool) → point ≡ SplitDue x best own among more → IsParting left n best own among more)
      (causes : (k : BackendId) (other : Cause) → next_action n ≡ actions.Detach k other → HasCause n k other)
      (kept : (answer : Answer) → IsKept point answer → ((c : ℕ) × IsIn left c) → Speaks left m mail answer) where
    goes_own : Own t.world.tables left t.history t.world.store n mail (t.orders s.number) (t.done s.number) (live_there t s.number) s.number
    goes_own =
        chain_own t.world.tables left t.history t.world.store m mail mail (t.orders s.number) (t.done s.number) (live_there t s.number) s.number (real s) own_was n stage at next refl refl (λ k. refl)
        (λ k p sound e. absurd (let line = own_was.asked k p sound e in free_of m.point free line.stage line.at line.waits))
        own_was.untold
        (λ k answer e. absurd (let line = (own_was.answer k answer e).1 in free_of m.point free line.stage line.at line.waits))
        in_order parting causes kept

    facts_left : Facts t.world.tables gate (with_at t.world.machine s.number n) t.world.store t.world.mail t.history t.orders t.done (live_there t)
    facts_left =
        let f : FactsOf t = facts_of t h in
        record {
          own = each_at (λ o y. Own t.world.tables left t.history t.world.store y (t.world.mail o) (t.orders o) (t.done o) (live_there t o) o) t.world.machine s.number n goes_own
              (λ o other. fewer_own t.world.tables attached left less t.history t.world.store (t.world.machine o) (t.world.mail o) (t.orders o) (t.done o) (live_there t o) o (f.own o));
          shared =
              subst (λ (post : ℕ → ℕ → Option Answer). Shared t.world.tables left t.history t.world.store (with_at t.world.machine s.number n) post) (with_at-self t.world.mail s.number)
              (silent t.world.tables attached left t.history t.world.store t.world.machine t.world.mail s.number n mail less
              (stands_silent t.world.tables left t.history m n mail mail
              (λ k here. stand_same t.world.tables left t.history t.world.store m mail mail (t.orders s.number) (t.done s.number) (live_there t s.number) s.number (real s) own_was n stage at next refl refl (λ d. refl) k)
              (λ k here. ap (λ x. inserted_in x (told_by m mail k)) (at ∙ sym next))
              (λ table i. record { work = i.work; inserting = ap inserting_in (at ∙ sym next) ∙ i.inserting; at = i.at }) (λ e. e))
              f.shared);
          counts = counted t.world.machine s.number n (below_65 s) t.world.gate gate (left_moves t.world.gate b (has attached b.number) t.world.machine m.session.gate f.counts) f.counts;
        }

    abbrev left_world : World
    left_world = record { tables = t.world.tables; gate = gate; machine = with_at t.world.machine s.number n; store = t.world.store; mail = t.world.mail }

    abbrev event : SessionEvent
    event = Detached b cause (step t.world.gate (calls.Detach b)).1

    module _ (first : BackendId) (there : lowest left ≡ Some first)
        (leads : detached m.session m.point (step t.world.gate (calls.Detach b)).1 ≡ n)
        (place : place_of m.session m.point event ≡ []) (refused : refused_opening m.session m.point event ≡ []) where
      fell : Invariant (record { world = left_world; history = fallen left_world t.history 65; orders = t.orders; done = t.done })
      fell = falls_kept left_world t.history t.orders t.done first.number facts_left (is_found (is_attached left) first there)

      abbrev Detached_to : Machine → List Entry → (ℕ → Option Told) → (ℕ → ℕ → Bool) → Type 0
      Detached_to y mid by did = (w : World) → w ≡ record { tables = t.world.tables; gate = gate; machine = with_at t.world.machine s.number y; store = t.world.store; mail = t.world.mail }
          → Invariant (record { world = w; history = fallen w mid 65; orders = by; done = did })

      to_left : Detached_to n t.history t.orders t.done
      to_left w e = subst (λ (v : World). Invariant (record { world = v; history = fallen v t.history 65; orders = t.orders; done = t.done })) (sym e) fell

      abbrev since : List Deed → List Entry
      since deeds = deaths_first (after t.world (Of s event)) event deeds t.history

      abbrev set_down : List Entry
      set_down = placed (live_there t s.number) t.world s.number m event (since (place_of m.session m.point event))

      pub left_holds : Invariant (tracked_after t (Of s event))
      unfolding after_at
      left_holds =
          (subst (λ (by : ℕ → Option Told). Detached_to (detached m.session m.point (step t.world.gate (calls.Detach b)).1) set_down by (with_at t.done s.number (t.done s.number))) (sym (with_at-self t.orders s.number))
          (subst (λ (did : ℕ → ℕ → Bool). Detached_to (detached m.session m.point (step t.world.gate (calls.Detach b)).1) set_down t.orders did) (sym (with_at-self t.done s.number))
          (subst (λ (mid : List Entry). Detached_to (detached m.session m.point (step t.world.gate (calls.Detach b)).1) mid t.orders t.done)
          (sym (places_none (live_there t s.number) t.world s.number m event (since (place_of m.session m.point event)) place refl refused ∙ ap since place))
          (subst (λ (y : Machine). Detached_to y t.history t.orders t.done) (sym leads) to_left))))
          (after t.world (Of s event)) refl

-- at a point that goes on with its chain
pub looks_order : (left : ℕ) (m : Machine) (session : Session) (stage : Stage) (point : Point) → session.heard ≡ m.session.heard → asked_in point ≡ None → IsInOrder left m stage → IsInOrder left (due session point) stage
looks_order left m session stage point same unasked order = record {
  rising = subst IsRising (sym same) order.rising;
  above = λ k e. absurd (let z : None ≡ Some k = sym unasked ∙ e in cc);
  below = λ k d climbs here under_it told. ap (λ (hs : List Heard). is_some (heard_from hs k)) same ∙ order.below k d climbs here under_it (elim told [
    | inl e ↦ absurd (let z : None ≡ Some d = sym unasked ∙ e in cc)
    | inr e ↦ inr (ap (λ (hs : List Heard). is_some (heard_from hs d)) (sym same) ∙ e)
  ]);
  one = λ alone. subst (λ (a : Option ℕ). HasOne a session.heard) (sym unasked) (subst (HasOne None) (sym same) (one_unasked (asked_in m.point) m.session.heard (order.one alone)));
}

pub lost_kept : (t : Tracked) (s : SessionId) (b c first : BackendId) (cause : Cause) (answer : GateAnswer) (stage : Stage) (before more : ℕ) → Invariant t
    → (t.world.machine s.number).point ≡ LostDue stage c before more
    → lowest (step t.world.gate (calls.Detach b)).0.attached.bits ≡ Some first
    → MayHappen t.world (Of s (Detached b cause answer)) → Invariant (tracked_after t (Of s (Detached b cause answer)))
unfolding after_at
lost_kept t s b c first cause answer stage before more h at there may =
    let m : Machine = t.world.machine s.number in
    let v : Bool = has t.world.gate.attached.bits b.number in
    let a : stage_at m.point ≡ Some stage = ap stage_at at in
    let free : is_waiting m.point ≡ false = ap is_waiting at in
    let leads : detached m.session m.point (step t.world.gate (calls.Detach b)).1 ≡ n t h s b cause stage (LookDue stage) a refl free =
    ap (λ (p : Point). detached m.session p (step t.world.gate (calls.Detach b)).1) at ∙ leads_to t.world.gate b c first (has t.world.gate.attached.bits b.number) m.session stage before more there in
    subst (λ (x : GateAnswer). Invariant (tracked_after t (Of s (Detached b cause x)))) may.1.1
    (left_holds t h s b cause stage (LookDue stage) a refl free
    (looks_order (left t h s b cause stage (LookDue stage) a refl free) m (with_view m.session (view_of (gate t h s b cause stage (LookDue stage) a refl free))) stage (LookDue stage) refl refl (order t h s b cause stage (LookDue stage) a refl free))
    (λ x best own among onward e. absurd (let z : LookDue stage ≡ SplitDue x best own among onward = e in cc))
    (λ k other e. absurd (let z : actions.Gate calls.Look ≡ actions.Detach k other = e in cc))
    (λ says is. absurd is)
    first there
    leads
    (ap (λ (p : Point). place_of m.session p (Detached b cause (step t.world.gate (calls.Detach b)).1)) at ∙ place_none t.world.gate b c cause (has t.world.gate.attached.bits b.number) m.session stage before more)
    (ap (λ (p : Point). refused_opening m.session p (Detached b cause (step t.world.gate (calls.Detach b)).1)) at ∙ refused_none t.world.gate b c cause (has t.world.gate.attached.bits b.number) m.session stage before more))

-- Where no recovery is ordered the layer is the world of the sessions.
use Rattle.std.proofs.Common.{◌≡◌, ℕ, List, [], ◌∷◌, refl, ap, subst, sym}
use Rattle.pool_base.specs.declared.backend_set.BackendSet.{BackendSet}
use Rattle.pool_base.specs.declared.gate_call.GateCall.TheVariants as calls
use Rattle.backend_trait.specs.declared.answer.Answer.{Answer}
use Rattle.backend_trait.specs.Store.{Transaction, Absent, Store}
use Rattle.backend_trait.specs.Acting.{MayAct}
use Rattle.session_machine.specs.declared.action.SessionEvent.{SessionEvent}
use Rattle.session_machine.specs.declared.action.SessionEvent.TheVariants as events
use Rattle.session_machine.specs.declared.machine.ReadPolicy.{ReadPolicy}
use Rattle.snapshot_gate.specs.declared.state.GateState.{GateState}
use Rattle.snapshot_gate.specs.Function.{step}
use Rattle.online_recovery.specs.declared.layout.Layout.{Layout}
use Rattle.online_recovery.specs.declared.standing.Due.TheVariants.{Resting}
use Rattle.one_copy_model.specs.declared.event.Event.{Event}
use Rattle.one_copy_model.specs.declared.event.Event.TheVariants.{Of, Act, Lost}
use Rattle.one_copy_model.specs.World.{GateGives, Lets as WorldLets, MayHappen as WorldMay, IsSchedule, first_world}
use Rattle.one_copy_model.specs.Tracking.{first_tracked, tracked_all}
use Rattle.recovery_laws.specs.declared.step.Step.TheVariants.{Serve}
use Rattle.recovery_laws.specs.Pool.{Pool, first_pool, world_of, either_transaction, whole_store, after, GateLets, MayStep, IsPlayed, pool_all, served}

-- no recovery is under way, and none has left anything
record IsCalm (p : Pool) : Type 0 where
  gate : p.gate ≡ (world_of p).gate
  resting : (s : ℕ) → (p.recovery s).due ≡ Resting
  none : p.transaction ≡ (λ s b. Absent)

-- Each step of the sessions keeps it so.

gates_same : (p : Pool) (e : Event) → p.gate ≡ (world_of p).gate → (after p (Serve e)).gate ≡ (world_of (after p (Serve e))).gate
gates_same p (Of s (events.Ordered order)) same = same
gates_same p (Of s (events.Called call answer)) same = ap (λ (g : GateState). (step g call).0) same
gates_same p (Of s (events.Posted b request)) same = same
gates_same p (Of s (events.Taken b answer)) same = same
gates_same p (Of s (events.Faulted b before count)) same = same
gates_same p (Of s (events.Detached b cause answer)) same = ap (λ (g : GateState). (step g (calls.Detach b)).0) same
gates_same p (Of s (events.Swapped b)) same = same
gates_same p (Of s (events.Replied outcome status)) same = same
gates_same p (Of s events.Ended) same = same
gates_same p (Act s b answer) same = same
gates_same p (Lost b) same = same

calm_after : (p : Pool) → IsCalm p → (e : Event) → IsCalm (after p (Serve e))
calm_after p calm e = record { gate = gates_same p e calm.gate; resting = calm.resting; none = calm.none }

-- What the world lets, the layer lets.

gate_lets : (p : Pool) → p.gate ≡ (world_of p).gate → (s : ℕ) (event : SessionEvent) → WorldLets (world_of p) s event → GateLets p event
gate_lets p same s (events.Ordered order) may = tt
gate_lets p same s (events.Called call answer) may = subst (λ (g : GateState). GateGives g call answer) (sym same) may
gate_lets p same s (events.Posted b request) may = tt
gate_lets p same s (events.Taken b answer) may = tt
gate_lets p same s (events.Faulted b before count) may = tt
gate_lets p same s (events.Detached b cause answer) may = subst (λ (g : GateState). GateGives g (calls.Detach b) answer) (sym same) may
gate_lets p same s (events.Swapped b) may = tt
gate_lets p same s (events.Replied outcome status) may = tt
gate_lets p same s events.Ended may = tt

abbrev whole_with : (ℕ → ℕ → Transaction) → Store → ℕ → Store
whole_with transaction st b = record st { transaction = λ s. either_transaction (transaction s b) (st.transaction s) }

store_lets : (p : Pool) → p.transaction ≡ (λ s b. Absent) → (s b : ℕ) (answer : Answer) → MayAct ((world_of p).store b) s answer → MayAct (whole_store p b) s answer
store_lets p none s b answer may =
    subst (λ (transaction : ℕ → ℕ → Transaction). MayAct (whole_with transaction ((world_of p).store b) b) s answer) (sym none) may

may_serve : (p : Pool) → IsCalm p → (e : Event) → WorldMay (world_of p) e → MayStep p (Serve e)
may_serve p calm (Of s event) may = (may, (calm.resting s.number, gate_lets p calm.gate s.number event may.1))
may_serve p calm (Act s b answer) may = (may, store_lets p calm.none s.number b.number answer may)
may_serve p calm (Lost b) may = (may, tt)

-- Lists of events.

only : (p : Pool) (es : List Event) → IsPlayed p (served es) → IsSchedule (world_of p) es
only p [] played = tt
only p (e ∷ es) played = (played.0.0, only (after p (Serve e)) es played.1)

all : (p : Pool) → IsCalm p → (es : List Event) → IsSchedule (world_of p) es → IsPlayed p (served es)
all p calm [] may = tt
all p calm (e ∷ es) may = (may_serve p calm e may.0, all (after p (Serve e)) (calm_after p calm e) es may.1)

same : (p : Pool) (es : List Event) → (pool_all p (served es)).tracked ≡ tracked_all p.tracked es
same p [] = refl
same p (e ∷ es) = same (after p (Serve e)) es

pub served_only : (layout : Layout) (policy : ReadPolicy) (attached : BackendSet) (events : List Event) → IsPlayed (first_pool layout policy attached) (served events)
    → IsSchedule (first_world layout.tables policy attached) events
served_only layout policy attached events played = only (first_pool layout policy attached) events played

pub served_all : (layout : Layout) (policy : ReadPolicy) (attached : BackendSet) (events : List Event) → IsSchedule (first_world layout.tables policy attached) events
    → IsPlayed (first_pool layout policy attached) (served events)
served_all layout policy attached events may =
    all (first_pool layout policy attached) (record { gate = refl; resting = λ s. refl; none = refl }) events may

pub served_same : (layout : Layout) (policy : ReadPolicy) (attached : BackendSet) (events : List Event) → (pool_all (first_pool layout policy attached) (served events)).tracked
    ≡ tracked_all (first_tracked layout.tables policy attached) events
served_same layout policy attached events = same (first_pool layout policy attached) events

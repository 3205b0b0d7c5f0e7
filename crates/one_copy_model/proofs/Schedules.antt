-- Laws of schedules.
use Rattle.std.proofs.Common.{◌≡◌, ℕ, zero, suc, List, [], ◌∷◌, refl, ap, subst, ◌∙◌}
use Rattle.std.specs.Prelude.{Option, Some, None}
use Rattle.pool_base.specs.declared.backend_set.BackendSet.{BackendSet}
use Rattle.pool_base.specs.declared.gate_call.GateCall.{GateCall}
use Rattle.pool_base.specs.declared.gate_call.GateCall.TheVariants as calls
use Rattle.schema.specs.declared.catalogue.TableDef.{TableDef}
use Rattle.session_machine.specs.declared.action.SessionEvent.{SessionEvent}
use Rattle.session_machine.specs.declared.action.SessionEvent.TheVariants as events
use Rattle.session_machine.specs.declared.machine.ReadPolicy.{ReadPolicy}
use Rattle.snapshot_gate.specs.declared.state.GateState.{GateState}
use Rattle.snapshot_gate.specs.Runs.{AreApart, IsRun, state_after}
use Rattle.snapshot_gate.proofs.Apart.{always_apart}
use Rattle.one_copy_model.specs.declared.event.Event.{Event}
use Rattle.one_copy_model.specs.declared.event.Event.TheVariants.{Of, Act, Lost}
use Rattle.one_copy_model.specs.World.{World, first_world, after, after_all, MayHappen, IsSchedule, FailsAt}

pub none_fails : (w : World) (es : List Event) (n : ℕ) → IsSchedule w es → FailsAt w es n → ⊥
none_fails w [] n s f = f
none_fails w (e ∷ es) zero s f = f s.0
none_fails w (e ∷ es) (suc n) s f = none_fails (after w e) es n s.1 f.1

pub some_fails : (w : World) (es : List Event) → (IsSchedule w es → ⊥) → ((n : ℕ) → FailsAt w es n → ⊥) → ⊥
some_fails w [] not none = not tt
some_fails w (e ∷ es) not none = none 0 (λ may. some_fails (after w e) es (λ rest. not (may, rest)) (λ n fails. none (suc n) (may, fails)))

pub one_fails : (w : World) (es : List Event) (n m : ℕ) → FailsAt w es n → FailsAt w es m → n ≡ m
one_fails w [] n m f g = absurd f
one_fails w (e ∷ es) zero zero f g = refl
one_fails w (e ∷ es) zero (suc m) f g = absurd (f g.0)
one_fails w (e ∷ es) (suc n) zero f g = absurd (g f.0)
one_fails w (e ∷ es) (suc n) (suc m) f g = ap suc (one_fails (after w e) es n m f.1 g.1)

-- the calls of the gate that events make
abbrev call_of : SessionEvent → Option GateCall
call_of (events.Ordered order) = None
call_of (events.Called call answer) = Some call
call_of (events.Posted b request) = None
call_of (events.Taken b answer) = None
call_of (events.Faulted b before more) = None
call_of (events.Detached b cause answer) = Some (calls.Detach b)
call_of (events.Swapped b) = None
call_of (events.Replied outcome status) = None
call_of events.Ended = None

abbrev call_in : Event → Option GateCall
call_in (Of s event) = call_of event
call_in (Act s b answer) = None
call_in (Lost b) = None

abbrev with_call : Option GateCall → List GateCall → List GateCall
with_call None more = more
with_call (Some call) more = call ∷ more

abbrev calls_of : List Event → List GateCall
calls_of [] = []
calls_of (e ∷ es) = with_call (call_in e) (calls_of es)

step_runs : (w : World) (e : Event) → MayHappen w e → (more : List GateCall) → IsRun (after w e).gate more → IsRun w.gate (with_call (call_in e) more)
step_runs w (Of s (events.Ordered order)) h more r = r
step_runs w (Of s (events.Called call answer)) h more r = (h.1.0, r)
step_runs w (Of s (events.Posted b request)) h more r = r
step_runs w (Of s (events.Taken b answer)) h more r = r
step_runs w (Of s (events.Faulted b before count)) h more r = r
step_runs w (Of s (events.Detached b cause answer)) h more r = (h.1.0, r)
step_runs w (Of s (events.Swapped b)) h more r = r
step_runs w (Of s (events.Replied outcome status)) h more r = r
step_runs w (Of s events.Ended) h more r = r
step_runs w (Act s b answer) h more r = r
step_runs w (Lost b) h more r = r

all_run : (w : World) (es : List Event) → IsSchedule w es → IsRun w.gate (calls_of es)
all_run w [] s = tt
all_run w (e ∷ es) s = step_runs w e s.0 (calls_of es) (all_run (after w e) es s.1)

step_leads : (w : World) (e : Event) (more : List GateCall) → state_after w.gate (with_call (call_in e) more) ≡ state_after (after w e).gate more
step_leads w (Of s (events.Ordered order)) more = refl
step_leads w (Of s (events.Called call answer)) more = refl
step_leads w (Of s (events.Posted b request)) more = refl
step_leads w (Of s (events.Taken b answer)) more = refl
step_leads w (Of s (events.Faulted b before count)) more = refl
step_leads w (Of s (events.Detached b cause answer)) more = refl
step_leads w (Of s (events.Swapped b)) more = refl
step_leads w (Of s (events.Replied outcome status)) more = refl
step_leads w (Of s events.Ended) more = refl
step_leads w (Act s b answer) more = refl
step_leads w (Lost b) more = refl

all_lead : (w : World) (es : List Event) → state_after w.gate (calls_of es) ≡ (after_all w es).gate
all_lead w [] = refl
all_lead w (e ∷ es) = step_leads w e (calls_of es) ∙ all_lead (after w e) es

pub apart : (tables : List TableDef) (policy : ReadPolicy) (attached : BackendSet) (es : List Event) → IsSchedule (first_world tables policy attached) es → AreApart (after_all (first_world tables policy attached) es).gate
apart tables policy attached es s =
    subst (λ (g : GateState). AreApart g) (all_lead (first_world tables policy attached) es)
    (always_apart attached (calls_of es) (all_run (first_world tables policy attached) es s))

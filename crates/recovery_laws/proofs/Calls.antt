-- The calls of a list of steps are a run of the gate.
use Rattle.std.proofs.Common.{◌≡◌, ℕ, List, [], ◌∷◌, Some, None, refl, subst, sym}
use Rattle.std.specs.Prelude.{Option}
use Rattle.pool_base.specs.declared.gate_call.GateCall.{GateCall}
use Rattle.backend_trait.specs.declared.request.Request.{Request}
use Rattle.backend_trait.specs.declared.answer.Answer.{Answer}
use Rattle.session_machine.specs.declared.action.SessionEvent.{SessionEvent}
use Rattle.session_machine.specs.declared.action.SessionEvent.TheVariants as events
use Rattle.snapshot_gate.specs.declared.state.GateState.{GateState}
use Rattle.snapshot_gate.specs.Function.{MayCall}
use Rattle.snapshot_gate.specs.Runs.{IsRun, state_after}
use Rattle.one_copy_model.specs.declared.event.Event.TheVariants.{Of, Act, Lost}
use Rattle.recovery_laws.specs.declared.step.Step.{Step}
use Rattle.recovery_laws.specs.declared.step.Step.TheVariants.{Serve, Recover, Answer as Answers}
use Rattle.recovery_laws.specs.Pool.{Pool, call_in, call_of, gate_after, answered, after, GateLets, LetsRecovery, MayStep, IsPlayed, pool_all}

-- a call that is made meets its condition
abbrev pub MeetsCall : GateState → Option GateCall → Type 0
MeetsCall gate None = Unit {0}
MeetsCall gate (Some call) = MayCall gate call

served_meets : (p : Pool) (event : SessionEvent) → GateLets p event → MeetsCall p.gate (call_in event)
served_meets p (events.Ordered order) may = tt
served_meets p (events.Called call answer) may = may.0
served_meets p (events.Posted b request) may = tt
served_meets p (events.Taken b answer) may = tt
served_meets p (events.Faulted b before count) may = tt
served_meets p (events.Detached b cause answer) may = may.0
served_meets p (events.Swapped b) may = tt
served_meets p (events.Replied outcome status) may = tt
served_meets p events.Ended may = tt

recovered_meets : (p : Pool) (s : ℕ) (event : SessionEvent) → LetsRecovery p s event → MeetsCall p.gate (call_in event)
recovered_meets p s (events.Ordered order) may = tt
recovered_meets p s (events.Called call answer) may = may.0
recovered_meets p s (events.Posted b request) may = tt
recovered_meets p s (events.Taken b answer) may = tt
recovered_meets p s (events.Faulted b before count) may = tt
recovered_meets p s (events.Detached b cause answer) may = may.0
recovered_meets p s (events.Swapped b) may = tt
recovered_meets p s (events.Replied outcome status) may = tt
recovered_meets p s events.Ended may = tt

pub step_meets : (p : Pool) (e : Step) → MayStep p e → MeetsCall p.gate (call_of e)
step_meets p (Serve (Of s event)) may = served_meets p event may.1.1
step_meets p (Serve (Act s b answer)) may = tt
step_meets p (Serve (Lost b)) may = tt
step_meets p (Recover s event) may = recovered_meets p s.number event may.1
step_meets p (Answers s b answer) may = tt

-- an answer to a recovery leaves the gate
answer_leaves : (p : Pool) (s b : ℕ) (answer : Answer) (request : Option Request) → (answered p s b answer request).gate ≡ p.gate
answer_leaves p s b answer None = refl
answer_leaves p s b answer (Some request) = refl

pub gate_is : (p : Pool) (e : Step) → (after p e).gate ≡ gate_after p.gate (call_of e)
gate_is p (Serve event) = refl
gate_is p (Recover s event) = refl
gate_is p (Answers s b answer) = answer_leaves p s.number b.number answer (p.asked s.number b.number)

-- the calls of a list of steps are a run of the gate
abbrev with_call : Option GateCall → List GateCall → List GateCall
with_call None more = more
with_call (Some call) more = call ∷ more

abbrev pub calls_of : List Step → List GateCall
calls_of [] = []
calls_of (e ∷ es) = with_call (call_of e) (calls_of es)

call_runs : (gate : GateState) (call : Option GateCall) (more : List GateCall) → MeetsCall gate call → IsRun (gate_after gate call) more → IsRun gate (with_call call more)
call_runs gate None more may run = run
call_runs gate (Some call) more may run = (may, run)

call_leads : (gate : GateState) (call : Option GateCall) (more : List GateCall) → state_after gate (with_call call more) ≡ state_after (gate_after gate call) more
call_leads gate None more = refl
call_leads gate (Some call) more = refl

pub runs : (p : Pool) (es : List Step) → IsPlayed p es → IsRun p.gate (calls_of es)
runs p [] played = tt
runs p (e ∷ es) played =
    call_runs p.gate (call_of e) (calls_of es) (step_meets p e played.0)
    (subst (λ gate. IsRun gate (calls_of es)) (gate_is p e) (runs (after p e) es played.1))

pub leads : (p : Pool) (es : List Step) → state_after p.gate (calls_of es) ≡ (pool_all p es).gate
leads p [] = refl
leads p (e ∷ es) =
    subst (λ x. x ≡ (pool_all (after p e) es).gate) (sym (call_leads p.gate (call_of e) (calls_of es)))
    (subst (λ gate. state_after gate (calls_of es) ≡ (pool_all (after p e) es).gate) (gate_is p e) (leads (after p e) es))

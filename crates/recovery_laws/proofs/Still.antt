-- Under entered quiet nobody is in a snapshot or has a transaction, over every list of steps.
use Rattle.std.proofs.Common.{◌≡◌, ◌+◌, ◌-◌, ◌<◌, ◌||◌, ◌==◌, ◌^◌, ℕ, List, [], ◌∷◌, refl, subst, arith, Bool, true, false, nat_lt, nat_le, if◌then◌else◌}
use Rattle.std.proofs.lemmas.Bool.Decides.{nat_tests}
use Rattle.pool_base.specs.Sets.{has}
use Rattle.pool_base.specs.declared.backend_set.BackendSet.{BackendSet}
use Rattle.pool_base.specs.declared.gate_call.GateCall.{GateCall}
use Rattle.pool_base.specs.declared.gate_call.GateAnswer.TheVariants.{Seen, Held, Spent}
use Rattle.pool_base.specs.declared.gate_call.GateCall.TheVariants.{Look, EnterSnapshot, LeaveSnapshot, EnterCommit, LeaveCommit, Finish, Detach, StartCopy, AskQuiet, EnterQuiet, Attach, LeaveQuiet}
use Rattle.session_machine.specs.declared.machine.ReadPolicy.{ReadPolicy}
use Rattle.snapshot_gate.specs.declared.state.GateState.{GateState}
use Rattle.snapshot_gate.specs.Function.{first, view_of, step, Turn, grant, refuse, MayCall}
use Rattle.snapshot_gate.specs.Runs.{IsRun, state_after}
use Rattle.online_recovery.specs.declared.layout.Layout.{Layout}
use Rattle.recovery_laws.specs.declared.step.Step.{Step}
use Rattle.recovery_laws.specs.Pool.{first_pool, IsPlayed, pool_all}
use Rattle.recovery_laws.specs.Phases.{IsStill}
use Rattle.recovery_laws.proofs.Calls.{calls_of, runs, leads}

-- a refusal under a test, or else a grant
guarded : (t : Bool) (x y : Turn) → IsStill x.0 → (t ≡ false → IsStill y.0) → IsStill (if t then x else y).0
guarded true x y refused passed = refused
guarded false x y refused passed = passed refl

either_way : (t : Bool) (x y : Turn) → IsStill x.0 → IsStill y.0 → IsStill (if t then x else y).0
either_way true x y one other = one
either_way false x y one other = other

not_entered : (quiet : ℕ) → nat_le 2 quiet ≡ false → quiet ≡ 3 → ⊥
not_entered quiet low entered = grind (arith, nat_tests)

not_none : (n : ℕ) → 0 < n → n ≡ 0 → ⊥
not_none n some none = omega arith

one_less : (n : ℕ) → n ≡ 0 → n - 1 ≡ 0
one_less n none = omega arith

none_of : (n : ℕ) → nat_lt 0 n ≡ false → n ≡ 0
none_of n h = grind (arith, nat_tests)

both_none : (snaps live : ℕ) → snaps + live ≡ 0 → (snaps ≡ 0) × (live ≡ 0)
both_none snaps live none = (omega arith, omega arith)

not_three : (n : ℕ) → n < 3 → n ≡ 3 → ⊥
not_three n low three = omega arith

none_low : 0 < 3
none_low = omega arith

one_low : 1 < 3
one_low = omega arith

two_low : 2 < 3
two_low = omega arith

entry_still : (g : GateState) (t u v : Bool) → IsStill g → (u ≡ false → g.quiet ≡ 3 → ⊥)
    → IsStill (if t then refuse g (Held g.commits) else if u then refuse g (Held g.quiet) else if v then refuse g Spent else grant g EnterSnapshot).0
entry_still g true u v h apart = h
entry_still g false true v h apart = h
entry_still g false false true h apart = h
entry_still g false false false h apart = λ entered. absurd (apart refl entered)

pub step_still : (g : GateState) (call : GateCall) → MayCall g call → IsStill g → IsStill (step g call).0
step_still g Look may h = h
step_still g EnterSnapshot may h =
    entry_still g (nat_lt 0 g.commits) (nat_le 2 g.quiet) ((g.snaps + g.live == 65535) || (g.done + g.snaps + g.live == 2 ^ 63)) h (not_entered g.quiet)
step_still g LeaveSnapshot may h = λ entered. absurd (not_none g.snaps may (h entered).0)
step_still g (EnterCommit tables) may h = guarded (nat_lt 0 g.snaps) (refuse g (Held g.snaps)) (grant g (EnterCommit tables)) h (λ passed. h)
step_still g LeaveCommit may h = λ entered. ((h entered).0, one_less g.live (h entered).1)
step_still g Finish may h = λ entered. ((h entered).0, one_less g.live (h entered).1)
step_still g (Detach b) may h = either_way (has g.attached.bits b.number) (grant g (Detach b)) (refuse g (Seen (view_of g))) h h
step_still g StartCopy may h =
    guarded (nat_lt 0 g.quiet) (refuse g (Held g.quiet)) (grant g StartCopy) h (λ passed entered. absurd (not_three 1 one_low entered))
step_still g AskQuiet may h = λ entered. absurd (not_three 2 two_low entered)
step_still g EnterQuiet may h =
    guarded (nat_lt 0 (g.snaps + g.live)) (refuse g (Held (g.snaps + g.live))) (grant g EnterQuiet) h
    (λ passed entered. both_none g.snaps g.live (none_of (g.snaps + g.live) passed))
step_still g (Attach b) may h = either_way (nat_le 4294967280 g.epoch) (refuse g Spent) (grant g (Attach b)) h h
step_still g LeaveQuiet may h = λ entered. absurd (not_three 0 none_low entered)

stays_still : (g : GateState) (calls : List GateCall) → IsRun g calls → IsStill g → IsStill (state_after g calls)
stays_still g [] run h = h
stays_still g (call ∷ calls) run h = stays_still (step g call).0 calls run.1 (step_still g call run.0 h)

pub always_still : (layout : Layout) (policy : ReadPolicy) (attached : BackendSet) (es : List Step) → IsPlayed (first_pool layout policy attached) es
    → IsStill (pool_all (first_pool layout policy attached) es).gate
always_still layout policy attached es played =
    subst (λ (g : GateState). IsStill g) (leads (first_pool layout policy attached) es)
    (stays_still (first attached) (calls_of es) (runs (first_pool layout policy attached) es played) (λ entered. (refl, refl)))

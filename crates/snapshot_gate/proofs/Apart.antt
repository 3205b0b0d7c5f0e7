-- Snapshots and commits stay apart at every call.
use Rattle.std.proofs.Common.{◌≡◌, ◌+◌, ◌-◌, ◌<◌, ◌||◌, ◌==◌, ◌^◌, ℕ, List, [], ◌∷◌, ◌⊎◌, inl, inr, refl, arith, Bool, true, false, nat_lt, nat_le, if◌then◌else◌}
use Rattle.std.proofs.lemmas.Bool.Decides.{nat_tests}
use Rattle.pool_base.specs.Sets.{has}
use Rattle.pool_base.specs.declared.backend_set.BackendSet.{BackendSet}
use Rattle.pool_base.specs.declared.gate_call.GateCall.{GateCall}
use Rattle.pool_base.specs.declared.gate_call.GateCall.TheVariants.{Look, EnterSnapshot, LeaveSnapshot, EnterCommit, LeaveCommit, Finish, Detach, StartCopy, AskQuiet, EnterQuiet, Attach, LeaveQuiet}
use Rattle.snapshot_gate.specs.declared.state.GateState.{GateState}
use Rattle.snapshot_gate.specs.Function.{first, step, Turn, MayCall}
use Rattle.snapshot_gate.specs.Runs.{AreApart, IsRun, state_after}

none_of : (n : ℕ) → nat_lt 0 n ≡ false → n ≡ 0
none_of n h = grind (arith, nat_tests)

-- a refusal under a test, or else a grant
guarded : (t : Bool) (x y : Turn) → AreApart x.0 → (t ≡ false → AreApart y.0) → AreApart (if t then x else y).0
guarded true x y refused passed = refused
guarded false x y refused passed = passed refl

left_snapshot : (snaps commits : ℕ) → 0 < snaps → (snaps ≡ 0) ⊎ (commits ≡ 0) → (snaps - 1 ≡ 0) ⊎ (commits ≡ 0)
left_snapshot snaps commits may (inl e) = absurd (omega arith)
left_snapshot snaps commits may (inr e) = inr e

left_commit : (snaps commits : ℕ) → 0 < commits → (snaps ≡ 0) ⊎ (commits ≡ 0) → (snaps ≡ 0) ⊎ (commits - 1 ≡ 0)
left_commit snaps commits may (inl e) = inl e
left_commit snaps commits may (inr e) = absurd (omega arith)

-- a call keeps them apart
step_apart : (g : GateState) (call : GateCall) → MayCall g call → AreApart g → AreApart (step g call).0
step_apart g Look may h = h
step_apart g EnterSnapshot may h =
    guarded (nat_lt 0 g.commits) _ _ h (λ none. guarded (nat_le 2 g.quiet) _ _ h (λ calm. guarded ((g.snaps + g.live == 65535) || (g.done + g.snaps + g.live == 2 ^ 63)) _ _ h (λ room. inr (none_of g.commits none))))
step_apart g LeaveSnapshot may h = left_snapshot g.snaps g.commits may h
step_apart g (EnterCommit tables) may h = guarded (nat_lt 0 g.snaps) _ _ h (λ none. inl (none_of g.snaps none))
step_apart g LeaveCommit may h = left_commit g.snaps g.commits may h
step_apart g Finish may h = h
step_apart g (Detach b) may h = guarded (has g.attached.bits b.number) _ _ h (λ gone. h)
step_apart g StartCopy may h = guarded (nat_lt 0 g.quiet) _ _ h (λ calm. h)
step_apart g AskQuiet may h = h
step_apart g EnterQuiet may h = guarded (nat_lt 0 (g.snaps + g.live)) _ _ h (λ calm. h)
step_apart g (Attach b) may h = guarded (nat_le 4294967280 g.epoch) _ _ h (λ room. h)
step_apart g LeaveQuiet may h = h

stays_apart : (g : GateState) (calls : List GateCall) → IsRun g calls → AreApart g → AreApart (state_after g calls)
stays_apart g [] run h = h
stays_apart g (call ∷ calls) run h = stays_apart (step g call).0 calls run.1 (step_apart g call run.0 h)

pub always_apart : (attached : BackendSet) (calls : List GateCall) → IsRun (first attached) calls → AreApart (state_after (first attached) calls)
always_apart attached calls run = stays_apart (first attached) calls run (inl refl)

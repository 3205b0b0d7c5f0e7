-- The gate holds a recovery off its quiet exactly while somebody is in a snapshot or has a transaction.
use Rattle.std.proofs.Common.{◌≡◌, ◌+◌, ◌<◌, ℕ, refl, ap, sym, arith, Bool, true, false, nat_lt, if◌then◌else◌}
use Rattle.std.proofs.lemmas.Bool.Decides.{nat_tests}
use Rattle.pool_base.specs.declared.gate_call.GateCall.TheVariants.{EnterQuiet}
use Rattle.pool_base.specs.declared.gate_call.GateAnswer.{GateAnswer}
use Rattle.pool_base.specs.declared.gate_call.GateAnswer.TheVariants.{Granted, Held}
use Rattle.snapshot_gate.specs.declared.state.GateState.{GateState}
use Rattle.snapshot_gate.specs.Function.{Turn, grant, refuse, step}
use Rattle.online_recovery.specs.declared.action.RecoveryAction.TheVariants.{Gate}
use Rattle.online_recovery.specs.Rules.{next_action}
use Rattle.recovery_laws.specs.Pool.{Pool}
use Rattle.recovery_laws.specs.Waiting.{IsRecoveryBlocked}

by_test : (t : Bool) (g : GateState) (m n : ℕ) → (if t then refuse g (Held m) else grant g EnterQuiet) ≡ refuse g (Held n) → t ≡ true
by_test true g m n e = refl
by_test false g m n e = let answer : (grant g EnterQuiet).1 ≡ Held n = ap (λ (turn : Turn). turn.1) e in absurd (cc)

positive : (n : ℕ) → nat_lt 0 n ≡ true → 0 < n
positive n e = grind (arith, nat_tests)

is_positive : (n : ℕ) → 0 < n → nat_lt 0 n ≡ true
is_positive n e = grind (arith, nat_tests)

pub held : (p : Pool) (s n : ℕ) → next_action (p.recovery s) ≡ Gate EnterQuiet → step p.gate EnterQuiet ≡ refuse p.gate (Held n) → IsRecoveryBlocked p s
held p s n due e =
    (due, positive (p.gate.snaps + p.gate.live) (by_test (nat_lt 0 (p.gate.snaps + p.gate.live)) p.gate (p.gate.snaps + p.gate.live) n e))

pub blocked : (p : Pool) (s : ℕ) → IsRecoveryBlocked p s → step p.gate EnterQuiet ≡ refuse p.gate (Held (p.gate.snaps + p.gate.live))
blocked p s is =
    ap (λ (t : Bool). if t then refuse p.gate (Held (p.gate.snaps + p.gate.live)) else grant p.gate EnterQuiet) (is_positive (p.gate.snaps + p.gate.live) is.1)

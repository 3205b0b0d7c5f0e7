-- The tests of the gate tell just what the gate gives.
use Rattle.std.proofs.Common.{◌≡◌, ◌<◌, ℕ, true, false, refl, ap, eqb-true, eq-eqb, ltb-true, lt-ltb}
use Rattle.std.specs.Prelude.{◌==◌, nat_lt, not}
use Rattle.pool_base.specs.Sets.{has}
use Rattle.pool_base.specs.declared.gate_call.View.{View}
use Rattle.pool_base.specs.declared.gate_call.GateCall.{GateCall}
use Rattle.pool_base.specs.declared.gate_call.GateCall.TheVariants as calls
use Rattle.pool_base.specs.declared.gate_call.GateAnswer.{GateAnswer}
use Rattle.pool_base.specs.declared.gate_call.GateAnswer.TheVariants.{Seen, Granted, Held, Spent}
use Rattle.backend_trait.proofs.Telling.{Tells, both_told, never, told_as, is_false}
use Rattle.snapshot_gate.specs.declared.state.GateState.{GateState}
use Rattle.snapshot_gate.specs.Function.{step, MayCall}
use Rattle.one_copy_model.specs.World.{GateGives}
use Rattle.world_program.specs.Deciding.{may_call, same_view, same_gate}

less_told : (a b : ℕ) → Tells (nat_lt a b) (a < b)
less_told a b = (λ e. ltb-true a b e, λ h. lt-ltb a b h)

equal_told : (a b : ℕ) → Tells (a == b) (a ≡ b)
equal_told a b = (λ e. eqb-true a b e, λ e. eq-eqb a b e)

always : (P : Type 0) → P → Tells true P
always P p = (λ e. p, λ h. refl)

pub call_told : (g : GateState) (call : GateCall) → Tells (may_call g call) (MayCall g call)
call_told g calls.Look = always _ tt
call_told g calls.EnterSnapshot = always _ tt
call_told g calls.LeaveSnapshot = less_told 0 g.snaps
call_told g (calls.EnterCommit tables) = less_told g.commits g.live
call_told g calls.LeaveCommit = less_told 0 g.commits
call_told g calls.Finish = less_told g.commits g.live
call_told g (calls.Detach b) = always _ tt
call_told g calls.StartCopy = always _ tt
call_told g calls.AskQuiet = equal_told g.quiet 1
call_told g calls.EnterQuiet = equal_told g.quiet 2
call_told g (calls.Attach b) =
    both_told (g.quiet == 3) (not (has g.attached.bits b.number)) (g.quiet ≡ 3) (has g.attached.bits b.number ≡ false) (equal_told g.quiet 3) (is_false (has g.attached.bits b.number))
call_told g calls.LeaveQuiet = less_told 0 g.quiet

view_is : (x y : View) → x.attached.bits ≡ y.attached.bits → x.epoch ≡ y.epoch → x.touched ≡ y.touched → x.done ≡ y.done → x ≡ y
view_is x y a b c d = λ i. record { attached = record { bits = a i }; epoch = b i; touched = c i; done = d i }

view_told : (x y : View) → Tells (same_view x y) (x ≡ y)
view_told x y =
    told_as _ _ (x ≡ y)
    (both_told _ _ (x.attached.bits ≡ y.attached.bits) ((x.epoch ≡ y.epoch) × ((x.touched ≡ y.touched) × (x.done ≡ y.done))) (equal_told x.attached.bits y.attached.bits)
    (both_told _ _ (x.epoch ≡ y.epoch) ((x.touched ≡ y.touched) × (x.done ≡ y.done)) (equal_told x.epoch y.epoch)
    (both_told _ _ (x.touched ≡ y.touched) (x.done ≡ y.done) (equal_told x.touched y.touched) (equal_told x.done y.done))))
    (λ h. view_is x y h.0 h.1.0 h.1.1.0 h.1.1.1)
    (λ e. (ap (λ (v : View). v.attached.bits) e, (ap (λ (v : View). v.epoch) e, (ap (λ (v : View). v.touched) e, ap (λ (v : View). v.done) e))))

pub gate_told : (x y : GateAnswer) → Tells (same_gate x y) (x ≡ y)
gate_told (Seen x) (Seen y) = (λ e. ap Seen ((view_told x y).0 e), λ e. (view_told x y).1 (let same : x ≡ y = cc in same))
gate_told (Granted x) (Granted y) = (λ e. ap Granted ((view_told x y).0 e), λ e. (view_told x y).1 (let same : x ≡ y = cc in same))
gate_told (Held n) (Held m) = (λ e. ap Held (eqb-true n m e), λ e. eq-eqb n m (let same : n ≡ m = cc in same))
gate_told Spent Spent = always _ refl
gate_told (Seen x) (Granted y) = never _ (λ e. cc)
gate_told (Seen x) (Held m) = never _ (λ e. cc)
gate_told (Seen x) Spent = never _ (λ e. cc)
gate_told (Granted x) (Seen y) = never _ (λ e. cc)
gate_told (Granted x) (Held m) = never _ (λ e. cc)
gate_told (Granted x) Spent = never _ (λ e. cc)
gate_told (Held n) (Seen y) = never _ (λ e. cc)
gate_told (Held n) (Granted y) = never _ (λ e. cc)
gate_told (Held n) Spent = never _ (λ e. cc)
gate_told Spent (Seen y) = never _ (λ e. cc)
gate_told Spent (Granted y) = never _ (λ e. cc)
gate_told Spent (Held m) = never _ (λ e. cc)

-- the gate gives an answer where the call meets its condition and the answer is the one
pub given_told : (g : GateState) (call : GateCall) (answer : GateAnswer) → MayCall g call → Tells (same_gate (step g call).1 answer) (GateGives g call answer)
given_told g call answer may = told_as _ _ _ (gate_told (step g call).1 answer) (λ e. (may, e)) (λ h. h.1)

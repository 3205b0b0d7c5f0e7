-- A session's call is answered by the sessions' part of the gate as by the whole gate.
use Rattle.std.proofs.Common.{◌≡◌, ◌+◌, ◌<◌, ◌≤◌, ◌||◌, ◌==◌, ◌^◌, ℕ, zero, suc, inl, inr, refl, ap, sym, subst, ◌∙◌, arith, Bool, true, false, nat_lt, nat_le, if◌then◌else◌}
use Rattle.std.proofs.lemmas.Bool.Decides.{nat_tests, eqb_tells}
use Rattle.pool_base.specs.Sets.{has}
use Rattle.pool_base.specs.declared.backend_id.BackendId.{BackendId}
use Rattle.pool_base.specs.declared.gate_call.GateCall.{GateCall}
use Rattle.pool_base.specs.declared.gate_call.GateCall.TheVariants as calls
use Rattle.pool_base.specs.declared.gate_call.GateAnswer.{GateAnswer}
use Rattle.pool_base.specs.declared.gate_call.GateAnswer.TheVariants.{Seen, Held, Spent}
use Rattle.session_machine.specs.Allowed.{answers_call, is_granted}
use Rattle.snapshot_gate.specs.declared.state.GateState.{GateState}
use Rattle.snapshot_gate.specs.Function.{view_of, step, grant, refuse}
use Rattle.online_recovery.specs.Runs.{Phase}
use Rattle.one_copy_model.specs.World.{World}
use Rattle.one_copy_model.specs.Invariant.{count_below, Counted, in_snapshot, in_transaction}
use Rattle.one_copy_model.proofs.Counts.{bit}
use Rattle.recovery_laws.specs.Counting.{is_in_snapshot, is_live, with_counts, CountsBoth}

-- Counts of 65 numbers are small.

bit_most : (b : Bool) → bit b ≤ 1
bit_most true = omega arith
bit_most false = omega arith

count_most : (p : ℕ → Bool) (n : ℕ) → count_below p n ≤ n
count_most p zero = omega arith
count_most p (suc n) =
    let rest = count_most p n in
    let here = bit_most (p n) in
    omega (arith, rest, here)

pub record IsSmall (whole own : GateState) : Type 0 where
  pub whole_few : whole.snaps + whole.live ≤ 260
  pub own_few : own.snaps + own.live ≤ 260
  pub less : own.snaps ≤ whole.snaps
  pub room : whole.done < 4611686018427387904

pub are_small : (w : World) (whole : GateState) (phases : ℕ → Phase) → CountsBoth whole w.gate phases → Counted w → whole.done < 4611686018427387904 → IsSmall whole w.gate
are_small w whole phases both counts room =
    let a = both.snaps in
    let b = both.live in
    let c = counts.snaps in
    let d = counts.live in
    let one = count_most (λ s. is_in_snapshot (phases s).gate) 65 in
    let two = count_most (λ s. is_live (phases s).gate) 65 in
    let three = count_most (λ s. in_snapshot (w.machine s).session.gate) 65 in
    let four = count_most (λ s. in_transaction (w.machine s).session.gate) 65 in
    record {
      whole_few = (let z : whole.snaps + whole.live ≤ 260 = omega (arith, a, b, c, d, one, two, three, four) in z);
      own_few = (let z : w.gate.snaps + w.gate.live ≤ 260 = omega (arith, c, d, three, four) in z);
      less = (let z : w.gate.snaps ≤ whole.snaps = omega (arith, a) in z);
      room = room;
    }

not_equal : (n m : ℕ) → (n ≡ m → ⊥) → (n == m) ≡ false
not_equal n m f = elim (eqb_tells n m) [
  | inl p ↦ absurd (f p.1)
  | inr p ↦ p.0
]

neither : (a b : Bool) → a ≡ false → b ≡ false → (a || b) ≡ false
neither true b e f = e
neither false b e f = f

all_counts : 2 ^ 63 ≡ 9223372036854775808
all_counts = refl

unspent : (done snaps live : ℕ) → snaps + live ≤ 260 → done < 4611686018427387904 → ((snaps + live == 65535) || (done + snaps + live == 2 ^ 63)) ≡ false
unspent done snaps live few room =
    neither (snaps + live == 65535) (done + snaps + live == 2 ^ 63)
    (not_equal (snaps + live) 65535 (λ e. omega (arith, e, few)))
    (not_equal (done + snaps + live) (2 ^ 63) (λ e. let f : done + snaps + live ≡ 9223372036854775808 = e ∙ all_counts in omega (arith, f, few, room)))

none_of : (n : ℕ) → nat_lt 0 n ≡ false → n ≡ 0
none_of n h = grind (arith, nat_tests)

is_none : (n : ℕ) → n ≡ 0 → nat_lt 0 n ≡ false
is_none n h = grind (arith, nat_tests)

enters_same : (g w : GateState) (t u x y : Bool) → w ≡ with_counts g w.snaps w.live → x ≡ false → y ≡ false
    → (if t then refuse w (Held w.commits) else if u then refuse w (Held w.quiet) else if y then refuse w Spent else grant w calls.EnterSnapshot).1
    ≡ (if t then refuse g (Held g.commits) else if u then refuse g (Held g.quiet) else if x then refuse g Spent else grant g calls.EnterSnapshot).1
enters_same g w true u x y e unlike none = ap (λ (k : GateState). Held k.commits) e
enters_same g w false true x y e unlike none = ap (λ (k : GateState). Held k.quiet) e
enters_same g w false false true y e unlike none = absurd (let z : true ≡ false = unlike in cc)
enters_same g w false false false true e unlike none = absurd (let z : true ≡ false = none in cc)
enters_same g w false false false false e unlike none = ap (λ (k : GateState). (grant k calls.EnterSnapshot).1) e

commit_same : (g w : GateState) (tables : ℕ) (x y : Bool) → w ≡ with_counts g w.snaps w.live → (x ≡ false → y ≡ false)
    → is_granted (if x then refuse g (Held g.snaps) else grant g (calls.EnterCommit tables)).1 ≡ true
    → (if y then refuse w (Held w.snaps) else grant w (calls.EnterCommit tables)).1 ≡ (if x then refuse g (Held g.snaps) else grant g (calls.EnterCommit tables)).1
commit_same g w tables true y e less may = absurd (let z : false ≡ true = may in cc)
commit_same g w tables false true e less may = absurd (let z : true ≡ false = less refl in cc)
commit_same g w tables false false e less may = ap (λ (k : GateState). (grant k (calls.EnterCommit tables)).1) e

gone_alike : (v : Bool) (g w : GateState) (b : BackendId) → w ≡ with_counts g w.snaps w.live
    → (if v then grant w (calls.Detach b) else refuse w (Seen (view_of w))).1 ≡ (if v then grant g (calls.Detach b) else refuse g (Seen (view_of g))).1
gone_alike true g w b e = ap (λ (k : GateState). (grant k (calls.Detach b)).1) e
gone_alike false g w b e = ap (λ (k : GateState). Seen (view_of k)) e

module _ (g w : GateState) (same : w ≡ with_counts g w.snaps w.live) (small : IsSmall g w) where
  answers_same : (call : GateCall) (answer : GateAnswer) → answers_call call answer ≡ true → (step g call).1 ≡ answer → (step w call).1 ≡ answer
  answers_same calls.Look answer may is = ap (λ (k : GateState). Seen (view_of k)) same ∙ is
  answers_same calls.EnterSnapshot answer may is =
      ap (λ (k : GateState). (if nat_lt 0 k.commits then refuse w (Held w.commits) else if nat_le 2 k.quiet then refuse w (Held w.quiet)
      else if ((w.snaps + w.live == 65535) || (w.done + w.snaps + w.live == 2 ^ 63)) then refuse w Spent else grant w calls.EnterSnapshot).1) same
      ∙ (enters_same g w (nat_lt 0 g.commits) (nat_le 2 g.quiet)
      ((g.snaps + g.live == 65535) || (g.done + g.snaps + g.live == 2 ^ 63)) ((w.snaps + w.live == 65535) || (w.done + w.snaps + w.live == 2 ^ 63)) same
      (unspent g.done g.snaps g.live small.whole_few small.room)
      (unspent w.done w.snaps w.live small.own_few (subst (λ (n : ℕ). n < 4611686018427387904) (sym (ap (λ (k : GateState). k.done) same)) small.room))
      ∙ is)
  answers_same calls.LeaveSnapshot answer may is = ap (λ (k : GateState). (grant k calls.LeaveSnapshot).1) same ∙ is
  answers_same (calls.EnterCommit tables) answer may is =
      commit_same g w tables (nat_lt 0 g.snaps) (nat_lt 0 w.snaps) same
      (λ none. is_none w.snaps (let a = small.less in let b : g.snaps ≡ 0 = none_of g.snaps none in omega (arith, a, b)))
      (ap is_granted is ∙ may) ∙ is
  answers_same calls.LeaveCommit answer may is = ap (λ (k : GateState). (grant k calls.LeaveCommit).1) same ∙ is
  answers_same calls.Finish answer may is = ap (λ (k : GateState). (grant k calls.Finish).1) same ∙ is
  answers_same (calls.Detach b) answer may is = absurd (let z : false ≡ true = may in cc)
  answers_same calls.StartCopy answer may is = absurd (let z : false ≡ true = may in cc)
  answers_same calls.AskQuiet answer may is = absurd (let z : false ≡ true = may in cc)
  answers_same calls.EnterQuiet answer may is = absurd (let z : false ≡ true = may in cc)
  answers_same (calls.Attach b) answer may is = absurd (let z : false ≡ true = may in cc)
  answers_same calls.LeaveQuiet answer may is = absurd (let z : false ≡ true = may in cc)

  pub gives_own : (call : GateCall) (answer : GateAnswer) → answers_call call answer ≡ true → (step g call).1 ≡ answer → (step w call).1 ≡ answer
  gives_own call answer may is = answers_same call answer may is

-- a detachment too
pub gone_own : (g w : GateState) (b : BackendId) (answer : GateAnswer) → w ≡ with_counts g w.snaps w.live → (step g (calls.Detach b)).1 ≡ answer → (step w (calls.Detach b)).1 ≡ answer
gone_own g w b answer same is =
    ap (λ (k : GateState). (if has k.attached.bits b.number then grant w (calls.Detach b) else refuse w (Seen (view_of w))).1) same
    ∙ (gone_alike (has g.attached.bits b.number) g w b same ∙ is)

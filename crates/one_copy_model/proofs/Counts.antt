-- The gate counts the sessions by their phase: one session moves.
use Rattle.std.proofs.Common.{◌≡◌, ◌≢◌, ℕ, zero, suc, ◌+◌, ◌<◌, Bool, true, refl, sym, ap, ◌∙◌, inl, inr, arith}
use Rattle.std.specs.Prelude.{◌⊎◌, if◌then◌else◌}
use Rattle.backend_trait.specs.Rows.{with_at}
use Rattle.snapshot_gate.specs.declared.state.GateState.{GateState}
use Rattle.session_machine.specs.declared.machine.GatePhase.{GatePhase}
use Rattle.session_machine.specs.declared.machine.Machine.{Machine}
use Rattle.one_copy_model.specs.Tracking.{in_commit}
use Rattle.one_copy_model.specs.Invariant.{count_below, in_snapshot, in_transaction}
use Rattle.one_copy_model.specs.Facts.{CountedBy}
use Rattle.one_copy_model.proofs.Places.{same_or_other, with_at-same, with_at-other}

abbrev pub bit : Bool → ℕ
bit b = if b then 1 else 0

pub count_same : (p q : ℕ → Bool) (n : ℕ) → ((i : ℕ) → i < n → p i ≡ q i) → count_below p n ≡ count_below q n
count_same p q zero h = refl
count_same p q (suc n) h =
    let rest : count_below p n ≡ count_below q n = count_same p q n (λ i below. h i (omega (arith, below))) in
    let here : bit (p n) ≡ bit (q n) = ap bit (h n (omega arith)) in
    omega (arith, rest, here)

-- two tests that differ at s alone
pub count_changed : (p q : ℕ → Bool) (n s : ℕ) → s < n → ((i : ℕ) → i ≢ s → p i ≡ q i) → count_below p n + bit (q s) ≡ count_below q n + bit (p s)
count_changed p q zero s below h = absurd (omega (arith, below))
count_changed p q (suc n) s below h =
    elim (same_or_other n s) [
      | inl same ↦
          let rest : count_below p n ≡ count_below q n = count_same p q n (λ i under. h i (λ e. omega (arith, e, same, under))) in
          let one : bit (p n) ≡ bit (p s) = ap (λ i. bit (p i)) same in
          let two : bit (q n) ≡ bit (q s) = ap (λ i. bit (q i)) same in
          omega (arith, rest, one, two)
      | inr other ↦
          let rest : count_below p n + bit (q s) ≡ count_below q n + bit (p s) = count_changed p q n s (omega (arith, other, below)) h in
          let here : bit (p n) ≡ bit (q n) = ap bit (h n other) in
          omega (arith, rest, here)
    ]

-- some number passes: the count is not 0
pub count_some : (p : ℕ → Bool) (n s : ℕ) → count_below p n ≡ 0 → s < n → p s ≡ true → ⊥
count_some p zero s none below passes = omega (arith, below)
count_some p (suc n) s none below passes =
    elim (same_or_other n s) [
      | inl same ↦ (let here : bit (p n) ≡ 1 = ap (λ i. bit (p i)) same ∙ ap bit passes in omega (arith, here, none))
      | inr other ↦ count_some p n s (omega (arith, none)) (omega (arith, other, below)) passes
    ]

-- what a step of one session does to the gate's counts
pub record Moves (gate next : GateState) (old new : GatePhase) : Type 0 where
  pub snaps : next.snaps + bit (in_snapshot old) ≡ gate.snaps + bit (in_snapshot new)
  pub commits : next.commits + bit (in_commit old) ≡ gate.commits + bit (in_commit new)
  pub live : next.live + bit (in_transaction old) ≡ gate.live + bit (in_transaction new)
  pub apart : (next.snaps ≡ 0) ⊎ (next.commits ≡ 0)
  pub quiet : next.quiet ≡ 3 → (next.snaps ≡ 0) × (next.live ≡ 0)
  pub few : next.attached.bits < 256

module _ (machine : ℕ → Machine) (s : ℕ) (n : Machine) (below : s < 65) where
  counts_move : (test : GatePhase → Bool) (g h : ℕ) → h + bit (test (machine s).session.gate) ≡ g + bit (test n.session.gate)
      → g ≡ count_below (λ o. test (machine o).session.gate) 65 → h ≡ count_below (λ o. test (with_at machine s n o).session.gate) 65
  counts_move test g h moves old =
      let new : ℕ → Bool = λ o. test (with_at machine s n o).session.gate in
      let was : ℕ → Bool = λ o. test (machine o).session.gate in
      let turn : count_below was 65 + bit (new s) ≡ count_below new 65 + bit (was s) = count_changed was new 65 s below (λ o other. ap (λ (x : Machine). test x.session.gate) (sym (with_at-other machine s n o other))) in
      let at : bit (new s) ≡ bit (test n.session.gate) = ap (λ (x : Machine). bit (test x.session.gate)) (with_at-same machine s n) in
      omega (arith, turn, at, moves, old)

  pub counted : (gate next : GateState) → Moves gate next (machine s).session.gate n.session.gate → CountedBy gate machine → CountedBy next (with_at machine s n)
  counted gate next moves old = record {
    snaps = counts_move in_snapshot gate.snaps next.snaps moves.snaps old.snaps;
    commits = counts_move in_commit gate.commits next.commits moves.commits old.commits;
    live = counts_move in_transaction gate.live next.live moves.live old.live;
    apart = moves.apart;
    quiet = moves.quiet;
    few = moves.few;
  }

-- the phase stays, and the counts of the gate
pub still : (gate : GateState) (machine : ℕ → Machine) (old new : GatePhase) → new ≡ old → CountedBy gate machine → Moves gate gate old new
still gate machine old new same h = record {
  snaps = ap (λ x. gate.snaps + bit (in_snapshot x)) (sym same);
  commits = ap (λ x. gate.commits + bit (in_commit x)) (sym same);
  live = ap (λ x. gate.live + bit (in_transaction x)) (sym same);
  apart = h.apart;
  quiet = h.quiet;
  few = h.few;
}

-- A call of the gate that is due meets its condition there: the gate counts the sessions that are in a phase.
use Rattle.std.proofs.Common.{◌≡◌, ℕ, zero, suc, ◌<◌, ◌≤◌, Bool, true, false, refl, sym, ap, ◌∙◌, subst, arith, inl, inr}
use Rattle.std.specs.Prelude.{None}
use Rattle.pool_base.specs.declared.session_id.SessionId.{SessionId}
use Rattle.pool_base.specs.declared.gate_call.GateCall.{GateCall}
use Rattle.pool_base.specs.declared.gate_call.GateCall.TheVariants as calls
use Rattle.session_machine.specs.declared.action.Action.TheVariants as actions
use Rattle.session_machine.specs.declared.machine.GatePhase.{GatePhase}
use Rattle.session_machine.specs.declared.machine.GatePhase.TheVariants as phases
use Rattle.session_machine.specs.declared.machine.Ending.{Ending}
use Rattle.session_machine.specs.declared.machine.Session.{Session}
use Rattle.session_machine.specs.declared.machine.Point.{Point}
use Rattle.session_machine.specs.declared.machine.Point.TheVariants.{EnterDue, LookDue, ChooseDue, ShowDue, LeaveSnapshotDue, UnwindDue, EnterCommitDue, LeaveCommitDue, FinishDue}
use Rattle.session_machine.specs.Rules.{action_at, next_action, tables_of}
use Rattle.snapshot_gate.specs.Function.{MayCall}
use Rattle.one_copy_model.specs.Deaths.{stage_at}
use Rattle.one_copy_model.specs.Tracking.{Tracked, in_commit}
use Rattle.one_copy_model.specs.Invariant.{Invariant, FitsPoint, count_below, in_snapshot, in_transaction}
use Rattle.one_copy_model.proofs.Counts.{bit, count_some}
use Rattle.one_copy_model.proofs.Places.{same_or_other}

-- of two tests, where all that passes the one passes the other, and one number the other alone
most : (p q : Bool) → (p ≡ true → q ≡ true) → bit p ≤ bit q
most true q passes = subst (λ (v : Bool). 1 ≤ bit v) (sym (passes refl)) (let z : 1 ≤ 1 = omega arith in z)
most false q passes = let z : 0 ≤ bit q = omega arith in z

count_most : (p q : ℕ → Bool) (n : ℕ) → ((i : ℕ) → p i ≡ true → q i ≡ true) → count_below p n ≤ count_below q n
count_most p q zero passes = let z : 0 ≤ 0 = omega arith in z
count_most p q (suc n) passes =
    let rest : count_below p n ≤ count_below q n = count_most p q n passes in
    let here : bit (p n) ≤ bit (q n) = most (p n) (q n) (passes n) in
    omega (arith, rest, here)

count_less : (p q : ℕ → Bool) (n s : ℕ) → ((i : ℕ) → p i ≡ true → q i ≡ true) → s < n → p s ≡ false → q s ≡ true
    → count_below p n < count_below q n
count_less p q zero s passes below out in_it = absurd (omega (arith, below))
count_less p q (suc n) s passes below out in_it = elim (same_or_other n s) [
  | inl same ↦
      let rest : count_below p n ≤ count_below q n = count_most p q n passes in
      let one : bit (p n) ≡ 0 = ap (λ i. bit (p i)) same ∙ ap bit out in
      let two : bit (q n) ≡ 1 = ap (λ i. bit (q i)) same ∙ ap bit in_it in
      omega (arith, rest, one, two)
  | inr other ↦
      let rest : count_below p n < count_below q n = count_less p q n s passes (omega (arith, other, below)) out in_it in
      let here : bit (p n) ≤ bit (q n) = most (p n) (q n) (passes n) in
      omega (arith, rest, here)
]

some_of : (n : ℕ) → (n ≡ 0 → ⊥) → 0 < n
some_of zero none = absurd (none refl)
some_of (suc n) none = let z : 0 < suc n = omega arith in z

commits_in : (phase : GatePhase) → in_commit phase ≡ true → in_transaction phase ≡ true
commits_in phases.Out e = absurd (let z : false ≡ true = e in cc)
commits_in phases.InSnapshot e = absurd (let z : false ≡ true = e in cc)
commits_in (phases.Live changed tables) e = refl
commits_in phases.InCommit e = refl

module _ (t : Tracked) (h : Invariant t) (s : SessionId) where
  abbrev phase : GatePhase
  phase = (t.world.machine s.number).session.gate

  below : s.number < 65
  below = let up = s.up_to_64 in omega (arith, up)

  snaps : in_snapshot phase ≡ true → 0 < t.world.gate.snaps
  snaps e = some_of t.world.gate.snaps
      (λ none. count_some (λ o. in_snapshot (t.world.machine o).session.gate) 65 s.number (sym h.counts.snaps ∙ none) below e)

  commits : in_commit phase ≡ true → 0 < t.world.gate.commits
  commits e = some_of t.world.gate.commits
      (λ none. count_some (λ o. in_commit (t.world.machine o).session.gate) 65 s.number (sym h.counts.commits ∙ none) below e)

  fewer : (changed : Bool) (tables : ℕ) → phase ≡ phases.Live changed tables → t.world.gate.commits < t.world.gate.live
  fewer changed tables is =
      let less = count_less (λ o. in_commit (t.world.machine o).session.gate) (λ o. in_transaction (t.world.machine o).session.gate) 65 s.number
      (λ o. commits_in (t.world.machine o).session.gate) below (ap in_commit is) (ap in_transaction is) in
      let one = h.counts.commits in
      let two = h.counts.live in
      omega (arith, less, one, two)

  entering : (it : GatePhase) → phase ≡ it → FitsPoint None EnterCommitDue it → t.world.gate.commits < t.world.gate.live
  entering (phases.Live true tables) is fits = fewer true tables is
  entering (phases.Live false tables) is fits = absurd (let z : false ≡ true = fits in cc)
  entering phases.Out is fits = absurd (let z : false ≡ true = fits in cc)
  entering phases.InSnapshot is fits = absurd (let z : false ≡ true = fits in cc)
  entering phases.InCommit is fits = absurd (let z : false ≡ true = fits in cc)

  finishing : (ending : Ending) (it : GatePhase) → phase ≡ it → FitsPoint None (FinishDue ending) it → t.world.gate.commits < t.world.gate.live
  finishing ending (phases.Live changed tables) is fits = fewer changed tables is
  finishing ending phases.Out is fits = absurd (let z : false ≡ true = fits in cc)
  finishing ending phases.InSnapshot is fits = absurd (let z : false ≡ true = fits in cc)
  finishing ending phases.InCommit is fits = absurd (let z : false ≡ true = fits in cc)

  meets : (session : Session) (point : Point) (call : GateCall) → FitsPoint (stage_at point) point phase → action_at session point ≡ actions.Gate call
      → MayCall t.world.gate call
  meets session (EnterDue work) call fits e = subst (MayCall t.world.gate) (let same : calls.EnterSnapshot ≡ call = cc in same) tt
  meets session (LookDue stage) call fits e = subst (MayCall t.world.gate) (let same : calls.Look ≡ call = cc in same) tt
  meets session (ChooseDue work) call fits e = subst (MayCall t.world.gate) (let same : calls.Look ≡ call = cc in same) tt
  meets session ShowDue call fits e = subst (MayCall t.world.gate) (let same : calls.Look ≡ call = cc in same) tt
  meets session (LeaveSnapshotDue work) call fits e =
      subst (MayCall t.world.gate) (let same : calls.LeaveSnapshot ≡ call = cc in same) (snaps fits)
  meets session (UnwindDue ending) call fits e = subst (MayCall t.world.gate) (let same : calls.LeaveSnapshot ≡ call = cc in same) (snaps fits)
  meets session EnterCommitDue call fits e =
      subst (MayCall t.world.gate) (let same : calls.EnterCommit (tables_of session.gate) ≡ call = cc in same) (entering phase refl fits)
  meets session (LeaveCommitDue ending) call fits e =
      subst (MayCall t.world.gate) (let same : calls.LeaveCommit ≡ call = cc in same) (commits fits)
  meets session (FinishDue ending) call fits e =
      subst (MayCall t.world.gate) (let same : calls.Finish ≡ call = cc in same) (finishing ending phase refl fits)
  meets session point call fits e = absurd (cc)

  call_meets : (call : GateCall) → next_action (t.world.machine s.number) ≡ actions.Gate call → MayCall t.world.gate call
  call_meets call e = meets (t.world.machine s.number).session (t.world.machine s.number).point call (h.inside s.number) e

pub call_met : (t : Tracked) (s : SessionId) (call : GateCall) → Invariant t → next_action (t.world.machine s.number) ≡ actions.Gate call
    → MayCall t.world.gate call
call_met t s call h e = call_meets t h s call e

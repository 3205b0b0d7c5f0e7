-- One recovery alone works at backends; and a session whose recovery is under way has nothing at an attached backend.
use Rattle.std.proofs.Common.{◌≡◌, ◌≢◌, ◌<◌, ◌≤◌, ◌-◌, ◌^◌, ◌==◌, ℕ, Bool, true, false, inl, inr, refl, sym, ap, subst, ◌∙◌, arith, if◌then◌else◌, eq-eqb}
use Rattle.std.specs.Prelude.{◌⊎◌}
use Rattle.std.proofs.lemmas.Bool.Decides.{leb_tells, eqb_tells}
use Rattle.pool_base.specs.Sets.{has, with_one, without}
use Rattle.pool_base.proofs.Finite.{with_members, loses_by}
use Rattle.pool_base.specs.declared.backend_id.BackendId.{BackendId}
use Rattle.pool_base.specs.declared.session_id.SessionId.{SessionId}
use Rattle.pool_base.specs.declared.gate_call.GateCall.TheVariants as calls
use Rattle.pool_base.specs.declared.gate_call.GateAnswer.TheVariants.{Seen}
use Rattle.backend_trait.specs.Store.{Absent}
use Rattle.session_machine.specs.declared.machine.GatePhase.{GatePhase}
use Rattle.session_machine.specs.declared.machine.GatePhase.TheVariants as phases
use Rattle.session_machine.specs.declared.machine.Point.{Point}
use Rattle.session_machine.specs.declared.machine.Point.TheVariants as points
use Rattle.snapshot_gate.specs.declared.state.GateState.{GateState}
use Rattle.snapshot_gate.specs.Function.{view_of, step, grant, refuse}
use Rattle.online_recovery.specs.declared.standing.Quiet.{Quiet}
use Rattle.online_recovery.specs.declared.standing.Quiet.TheVariants.{Open, Copying, Asked, Entered}
use Rattle.online_recovery.specs.declared.standing.Due.{Due}
use Rattle.online_recovery.specs.declared.standing.Due.TheVariants.{Resting, LookDue, StartDue, SwapDue, EnterDue, PostDue, Waiting, ShowDue, LeaveSnapshotDue, FinishDue, AskDue, QuietDue, AttachDue, LostDue, Closing, Undoing}
use Rattle.online_recovery.specs.declared.standing.Held.{Held}
use Rattle.online_recovery.specs.declared.standing.Side.TheVariants.{Source, Target}
use Rattle.online_recovery.specs.declared.standing.Standing.{Standing}
use Rattle.online_recovery.specs.declared.standing.Task.{Task}
use Rattle.online_recovery.specs.declared.standing.Task.TheVariants.{OpeningSource, OpeningTarget, Reading, Emptying, Filling, Committing, Leaving, OpeningNumbers, ReadingSerial, LockingSerial, SettingSerial, ClosingNumbers}
use Rattle.online_recovery.specs.Runs.{Phase}
use Rattle.online_recovery.proofs.Fitting.{Fits, FitsTask, Agrees}
use Rattle.one_copy_model.specs.Deaths.{stage_at, answer_from}
use Rattle.one_copy_model.specs.Invariant.{Invariant, IsStranger}
use Rattle.one_copy_model.specs.Standing.{Nowhere, Stands, standing_by, standing_of, standing_at, leaving_of}
use Rattle.one_copy_model.specs.Tracking.{Tracked, single}
use Rattle.one_copy_model.proofs.Finding.{one_of_eight}
use Rattle.recovery_laws.proofs.Lining.{WaitsAt}
use Rattle.play_laws.proofs.Courses.{RidsBy, IsCopy, Tidy}

-- a quiet that is not open
shut : (q r : Quiet) → q ≡ r → (r ≡ Open → ⊥) → q ≡ Open → ⊥
shut q r e never opens = never (sym e ∙ opens)

copying : Copying ≡ Open → ⊥
copying e = cc

asked : Asked ≡ Open → ⊥
asked e = cc

entered : Entered ≡ Open → ⊥
entered e = cc

task_shut : (task : Task) (p : Phase) → FitsTask task p → p.quiet ≡ Open → ⊥
task_shut OpeningSource p f e = elim f [ inl x ↦ shut p.quiet Copying x.1 copying e | inr x ↦ shut p.quiet Entered x.1 entered e ]
task_shut OpeningTarget p f e = elim f [ inl x ↦ shut p.quiet Copying x.1 copying e | inr x ↦ shut p.quiet Entered x.1 entered e ]
task_shut (Reading table) p f e = elim f [ inl x ↦ shut p.quiet Copying x.1 copying e | inr x ↦ shut p.quiet Entered x.1 entered e ]
task_shut (Emptying table rows) p f e = elim f [ inl x ↦ shut p.quiet Copying x.1 copying e | inr x ↦ shut p.quiet Entered x.1 entered e ]
task_shut (Filling table rows left) p f e = elim f [ inl x ↦ shut p.quiet Copying x.1 copying e | inr x ↦ shut p.quiet Entered x.1 entered e ]
task_shut Committing p f e = elim f [ inl x ↦ shut p.quiet Copying x.1 copying e | inr x ↦ shut p.quiet Entered x.1 entered e ]
task_shut Leaving p f e = elim f [ inl x ↦ shut p.quiet Copying x.1 copying e | inr x ↦ shut p.quiet Entered x.1 entered e ]
task_shut OpeningNumbers p f e = shut p.quiet Entered f.1 entered e
task_shut (ReadingSerial table) p f e = shut p.quiet Entered f.1 entered e
task_shut (LockingSerial table n) p f e = shut p.quiet Entered f.1 entered e
task_shut (SettingSerial table n) p f e = shut p.quiet Entered f.1 entered e
task_shut ClosingNumbers p f e = shut p.quiet Entered f.1 entered e

pub copy_shut : (held : Held) (at : Due) (p : Phase) → Fits at p → Agrees p held → (held.at_target ≡ true → held.quiet ≡ Open → ⊥) → IsCopy held at → p.quiet ≡ Open → ⊥
copy_shut held EnterDue p f a tidy copy e = shut p.quiet Copying f.1 copying e
copy_shut held (PostDue task) p f a tidy copy e = task_shut task p f e
copy_shut held (Waiting task) p f a tidy copy e = task_shut task p f e
copy_shut held (ShowDue task answer) p f a tidy copy e = task_shut task p f e
copy_shut held LeaveSnapshotDue p f a tidy copy e = shut p.quiet Copying f.1 copying e
copy_shut held FinishDue p f a tidy copy e = shut p.quiet Copying f.1 copying e
copy_shut held AskDue p f a tidy copy e = shut p.quiet Copying f.1 copying e
copy_shut held QuietDue p f a tidy copy e = shut p.quiet Asked f.1 asked e
copy_shut held AttachDue p f a tidy copy e = shut p.quiet Entered f.1 entered e
copy_shut held Resting p f a tidy copy e = tidy copy (sym a.1 ∙ e)
copy_shut held (LookDue number) p f a tidy copy e = tidy copy (sym a.1 ∙ e)
copy_shut held StartDue p f a tidy copy e = tidy copy (sym a.1 ∙ e)
copy_shut held SwapDue p f a tidy copy e = tidy copy (sym a.1 ∙ e)
copy_shut held (LostDue ending before count) p f a tidy copy e = tidy copy (sym a.1 ∙ e)
copy_shut held (Closing ending) p f a tidy copy e = tidy copy (sym a.1 ∙ e)
copy_shut held (Undoing side ending) p f a tidy copy e = tidy copy (sym a.1 ∙ e)

-- who waits has the quiet
pub wait_shut : (r : Standing) (p : Phase) (b : ℕ) → Tidy r → Fits r.due p → Agrees p r.held → WaitsAt r.held r.due b → p.quiet ≡ Open → ⊥
wait_shut r p b tidy f a waits e = by r.held r.due tidy.rids tidy.at_source tidy.at_target f a waits
  where
    by : (held : Held) (at : Due) → RidsBy at held.at_source held.at_target → (held.at_source ≡ true → held.quiet ≡ Open → ⊥) → (held.at_target ≡ true → held.quiet ≡ Open → ⊥)
        → Fits at p → Agrees p held → WaitsAt held at b → ⊥
    by held (Waiting task) rids source target f a w = task_shut task p f e
    by held (Undoing Source ending) rids source target f a w = source rids (sym a.1 ∙ e)
    by held (Undoing Target ending) rids source target f a w = target rids (sym a.1 ∙ e)
    by held at rids source target f a w = absurd w

-- A session at rest, outside of a transaction, has none at an attached backend.

pub absent_outside : (t : Tracked) → Invariant t → (s b : ℕ) → (t.world.machine s).point ≡ points.Resting → (t.world.machine s).session.gate ≡ phases.Out → has t.world.gate.attached.bits b ≡ true
    → (t.world.store b).transaction s ≡ Absent
absent_outside t inv s b rests out here =
    let told = answer_from t.world s b in
    let nowhere : standing_of t.world s b ≡ Nowhere =
    ap (λ (point : Point). standing_by (t.world.machine s).session.gate point (stage_at point) told) rests
    ∙ ap (λ (g : GatePhase). standing_at g points.Resting) out in
    (subst (λ x. Stands (single t) s (leaving_of t.world.tables s t.history) x ((t.world.store b).transaction s) ((single t).transaction s)) nowhere (inv.stands s b here)).0

-- Numbers: of a session, or of none.

pub session_or : (s : ℕ) → IsStranger s ⊎ ((id : SessionId) × (id.number ≡ s))
session_or s = elim (leb_tells 1 s) [
  | inl low ↦ elim (leb_tells s 64) [
    | inl high ↦ inr (record { number = s; from_one = low.1; up_to_64 = high.1 }, refl)
    | inr high ↦ inl (inr (let h = high.1 in let z : 65 ≤ s = omega (arith, h) in z))
  ]
  | inr low ↦ inl (inl (let l = low.1 in let z : s ≡ 0 = omega (arith, l) in z))
]

-- Which backends an Attach and a detachment leave.

pub with_less : (bits : ℕ) (b : BackendId) → bits < 256 → with_one bits b.number < 256 → (k : ℕ) → k ≢ b.number → has bits k ≡ false → has (with_one bits b.number) k ≡ false
with_less bits b few more k other out = by (has (with_one bits b.number) k) refl
  where
    not_same : (k == b.number) ≡ false
    not_same = elim (eqb_tells k b.number) [ inl p ↦ absurd (other p.1) | inr p ↦ p.0 ]

    by : (v : Bool) → has (with_one bits b.number) k ≡ v → v ≡ false
    by false e = refl
    by true e =
        let m = with_members bits b.number few b.below_8 k (one_of_eight (with_one bits b.number) k more e) in
        sym e ∙ (m ∙ (ap (λ (v : Bool). if v then true else has bits k) not_same ∙ out))

left_out : (v : Bool) (g : GateState) (b : BackendId) → has g.attached.bits b.number ≡ v → g.attached.bits < 256
    → has (if v then grant g (calls.Detach b) else refuse g (Seen (view_of g))).0.attached.bits b.number ≡ false
left_out true g b here few =
    let bits = g.attached.bits in
    let is : without bits b.number ≡ bits - 2 ^ b.number = ap (λ (v : Bool). if v then bits - 2 ^ b.number else bits) here in
    subst (λ k. has k b.number ≡ false) (sym is)
    (loses_by bits b.number (2 ^ b.number) few b.below_8 here refl b.number b.below_8
    ∙ ap (λ (v : Bool). if v then false else has bits b.number) (eq-eqb b.number b.number refl))
left_out false g b here few = here

pub detached_out : (g : GateState) (b : BackendId) → g.attached.bits < 256 → has (step g (calls.Detach b)).0.attached.bits b.number ≡ false
detached_out g b few = left_out (has g.attached.bits b.number) g b refl few

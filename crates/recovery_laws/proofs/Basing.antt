-- What a recovery reads at its source is the single run's: the rows at its snapshot, and the serial numbers.
use Rattle.std.proofs.Common.{◌≡◌, ◌<◌, ℕ, List, inl, inr, refl, ap, sym, subst, ◌∙◌, arith, true, false}
use Rattle.std.specs.Prelude.{◌⊎◌, Option, Some, None}
use Rattle.pool_base.specs.Sets.{has}
use Rattle.pool_base.specs.declared.session_id.SessionId.{SessionId}
use Rattle.schema.specs.declared.catalogue.TableDef.{TableDef}
use Rattle.backend_trait.specs.declared.request.Request.{Request}
use Rattle.backend_trait.specs.declared.request.Request.TheVariants as requests
use Rattle.backend_trait.specs.declared.answer.Answer.{Answer}
use Rattle.snapshot_gate.specs.declared.state.GateState.{GateState}
use Rattle.snapshot_gate.specs.Runs.{AreApart}
use Rattle.online_recovery.specs.declared.standing.Quiet.TheVariants.{Open, Copying, Entered}
use Rattle.online_recovery.specs.declared.standing.GateStanding.TheVariants.{Out, InSnapshot}
use Rattle.online_recovery.specs.declared.standing.Side.TheVariants.{Target}
use Rattle.online_recovery.specs.declared.standing.Task.{Task}
use Rattle.online_recovery.specs.declared.standing.Task.TheVariants.{OpeningSource, OpeningTarget, Reading, Emptying, Filling, Committing, Leaving, OpeningNumbers, ReadingSerial, LockingSerial, SettingSerial, ClosingNumbers}
use Rattle.online_recovery.specs.declared.standing.Due.{Due}
use Rattle.online_recovery.specs.declared.standing.Due.TheVariants.{Waiting, Undoing}
use Rattle.online_recovery.specs.declared.standing.Held.{Held}
use Rattle.online_recovery.specs.State.{backend_at, side_of}
use Rattle.online_recovery.specs.Rules.{request_of}
use Rattle.online_recovery.specs.Runs.{Phase}
use Rattle.online_recovery.proofs.Fitting.{Fits, FitsTask, IsIn}
use Rattle.one_copy_model.specs.Tracking.{single, in_commit}
use Rattle.one_copy_model.specs.Statement.{NobodyCommits, NobodyInserts, IsInserting}
use Rattle.one_copy_model.specs.Invariant.{count_below}
use Rattle.one_copy_model.proofs.InvariantLaws.{agree}
use Rattle.one_copy_model.proofs.Counts.{count_some}
use Rattle.one_copy_model.proofs.Quiet.{below_65}
use Rattle.recovery_laws.specs.declared.step.Step.{Step}
use Rattle.recovery_laws.specs.declared.step.Step.TheVariants.{Serve, Recover, Answer as Answers}
use Rattle.recovery_laws.specs.Pool.{Pool, world_of, call_in, gate_after, tracked_recovered, answered, after}
use Rattle.recovery_laws.specs.Phases.{number_of}
use Rattle.recovery_laws.specs.Counting.{is_in_snapshot}
use Rattle.recovery_laws.proofs.Attaching.{calm}
use Rattle.recovery_laws.proofs.Freeing.{IsFree}
use Rattle.recovery_laws.proofs.Lining.{WaitsAt, AsksFor}
use Rattle.recovery_laws.proofs.Stepping.{Holds, recovered_tables}
use Rattle.recovery_laws.proofs.Stillness.{falls_none, adds_nothing}

-- Of an attached backend a snapshot is asked in the recovery's own snapshot or under entered quiet, and a number under entered quiet.

abbrev Opens : Phase → Type 0
Opens p = IsIn InSnapshot Copying p ⊎ IsIn Out Entered p

abbrev FitsRequest : Request → Phase → Type 0
FitsRequest requests.TakeSnapshot p = Opens p
FitsRequest (requests.ReadSerial table) p = IsIn Out Entered p
FitsRequest request p = Unit {0}

task_fits : (tables : List TableDef) (task : Task) (p : Phase) → FitsTask task p → (side_of task ≡ Target → ⊥) → FitsRequest (request_of tables task) p
task_fits tables OpeningSource p f never = f
task_fits tables OpeningTarget p f never = absurd (never refl)
task_fits tables (Reading table) p f never = tt
task_fits tables (Emptying table rows) p f never = tt
task_fits tables (Filling table rows left) p f never = tt
task_fits tables Committing p f never = tt
task_fits tables Leaving p f never = tt
task_fits tables OpeningNumbers p f never = absurd (never refl)
task_fits tables (ReadingSerial table) p f never = f
task_fits tables (LockingSerial table n) p f never = tt
task_fits tables (SettingSerial table n) p f never = tt
task_fits tables ClosingNumbers p f never = tt

asked_fits : (n : ℕ) (held : Held) (at : Due) (p : Phase) (b : ℕ) (request : Request) → Fits at p → IsFree n held.target at → has n b ≡ true → WaitsAt held at b → AsksFor held at request → FitsRequest request p
asked_fits n held (Waiting task) p b request f free here waits asks =
    subst (λ x. FitsRequest x p) (sym asks)
    (task_fits held.layout.tables task p f
    (λ target. let z : false ≡ true = sym free ∙ ap (has n) (ap (λ side. (backend_at held side).number) (sym target) ∙ waits) ∙ here in cc))
asked_fits n held (Undoing side ending) p b request f free here waits asks = subst (λ x. FitsRequest x p) (sym asks) tt
asked_fits n held at p b request f free here waits asks = absurd waits

module _ (p : Pool) (phases : ℕ → Phase) (h : Holds p phases) where
  abbrev own : GateState
  own = (world_of p).gate

  same_commits : own.commits ≡ p.gate.commits
  same_commits = ap (λ (g : GateState). g.commits) h.counts.same

  nobody : own.commits ≡ 0 → NobodyCommits (world_of p)
  nobody none s low high is =
      count_some (λ o. in_commit ((world_of p).machine o).session.gate) 65 s (sym h.invariant.counts.commits ∙ none) (let z : s < 65 = omega (arith, high) in z) (ap in_commit is)

  entered : (s : ℕ) → IsIn Out Entered (phases s) → p.gate.quiet ≡ 3
  entered s is = h.one.quiet s (λ opened. let z : Entered ≡ Open = sym is.1 ∙ opened in cc) ∙ ap number_of is.1

  under_quiet : p.gate.quiet ≡ 3 → own.commits ≡ 0
  under_quiet three =
      let none = h.still three in
      let e = h.counts.live in
      let f = h.counts.commits in
      let g = none.1 in
      let z : own.commits ≡ 0 = omega (arith, e, f, g) in z

  fits_at : (s b : ℕ) (request : Request) → p.asked s b ≡ Some request → has p.gate.attached.bits b ≡ true → FitsRequest request (phases s)
  fits_at s b request is here =
      let a = (h.lines s).asks b request is in
      asked_fits p.gate.attached.bits (p.recovery s).held (p.recovery s).due (phases s) b request (h.fits s).fits (h.free s) here a.0 a.1

  same_here : (b : ℕ) → has p.gate.attached.bits b ≡ true → has own.attached.bits b ≡ true
  same_here b here = ap (λ (g : GateState). has g.attached.bits b) h.counts.same ∙ here

  same_quiet : p.gate.quiet ≡ 3 → own.quiet ≡ 3
  same_quiet three = ap (λ (g : GateState). g.quiet) h.counts.same ∙ three

  nobody_inserts : p.gate.quiet ≡ 3 → NobodyInserts (world_of p)
  nobody_inserts three s low high inserts =
      subst IsInserting (calm p.tracked h.invariant (same_quiet three) s) inserts

  -- under entered quiet an attached backend has the rows of the single run
  pub quiet_rows : p.gate.quiet ≡ 3 → (b : ℕ) → has p.gate.attached.bits b ≡ true → ((world_of p).store b).rows ≡ (single p.tracked).rows
  quiet_rows three b here = (agree p.tracked h.invariant (nobody (under_quiet three)) b (same_here b here)).rows

  module _ (apart : AreApart p.gate) where
    -- a snapshot of a recovery is one of the gate's
    in_snapshot : (s : SessionId) → IsIn InSnapshot Copying (phases s.number) → own.commits ≡ 0
    in_snapshot s is = elim apart [
      | inl none ↦
          absurd (count_some (λ o. is_in_snapshot (phases o).gate) 65 s.number
          (let e = h.counts.snaps in let z : count_below (λ o. is_in_snapshot (phases o).gate) 65 ≡ 0 = omega (arith, e, none) in z) (below_65 s) (ap is_in_snapshot is.0))
      | inr none ↦ same_commits ∙ none
    ]

    pub base_is : (s : SessionId) (b : ℕ) → p.asked s.number b ≡ Some requests.TakeSnapshot → has p.gate.attached.bits b ≡ true → ((world_of p).store b).rows ≡ (single p.tracked).rows
    base_is s b is here =
        let none : own.commits ≡ 0 = elim (fits_at s.number b requests.TakeSnapshot is here) [ inl snap ↦ in_snapshot s snap | inr quiet ↦ under_quiet (entered s.number quiet) ] in
        (agree p.tracked h.invariant (nobody none) b (same_here b here)).rows

    pub number_is : (s : SessionId) (b table : ℕ) → p.asked s.number b ≡ Some (requests.ReadSerial table) → has p.gate.attached.bits b ≡ true
        → ((world_of p).store b).next table ≡ (single p.tracked).next table
    number_is s b table is here =
        let three = entered s.number (fits_at s.number b (requests.ReadSerial table) is here) in
        (agree p.tracked h.invariant (nobody (under_quiet three)) b (same_here b here)).numbers (nobody_inserts three) table

    -- Under entered quiet no step adds to the single run.

    answers_add : (s b : ℕ) (answer : Answer) (request : Option Request) → own.quiet ≡ 3 → (answered p s b answer request).tracked.history ≡ p.tracked.history
    answers_add s b answer None three = refl
    answers_add s b answer (Some request) three = falls_none p.tracked h.invariant three (world_of (answered p s b answer (Some request))) refl

    pub step_adds : (e : Step) → p.gate.quiet ≡ 3 → (after p e).tracked.history ≡ p.tracked.history
    step_adds (Serve event) three = adds_nothing p.tracked h.invariant (same_quiet three) event
    step_adds (Recover s event) three =
        falls_none p.tracked h.invariant (same_quiet three) (tracked_recovered p.tracked (gate_after p.gate (call_in event)) s.number event).world
        (recovered_tables p.tracked (gate_after p.gate (call_in event)) s.number event)
    step_adds (Answers s b answer) three = answers_add s.number b.number answer (p.asked s.number b.number) (same_quiet three)

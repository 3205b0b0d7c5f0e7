-- A recovery detaches its source: fewer are attached, and who was live there alone dies. No session moves.
use Rattle.std.proofs.Common.{◌≡◌, ℕ, true, false, List, refl}
use Rattle.std.specs.Prelude.{Option, Some, None}
use Rattle.pool_base.specs.declared.session_id.SessionId.{SessionId}
use Rattle.pool_base.specs.declared.backend_id.BackendId.{BackendId}
use Rattle.backend_trait.specs.declared.request.Request.{Request}
use Rattle.backend_trait.specs.declared.answer.Answer.{Answer}
use Rattle.session_machine.specs.declared.machine.GatePhase.{GatePhase}
use Rattle.session_machine.specs.declared.machine.GatePhase.TheVariants as phases
use Rattle.session_machine.specs.declared.machine.Stage.{Stage}
use Rattle.session_machine.specs.declared.machine.Stage.TheVariants.{Opening, Reading, Running, Locking, Inserting, Committing, Closing, RollingBack}
use Rattle.session_machine.specs.declared.machine.Point.{Point}
use Rattle.session_machine.specs.declared.machine.Point.TheVariants.{LeaveSnapshotDue, UnwindDue, LeaveCommitDue, FinishDue}
use Rattle.session_machine.specs.Answers.{lowest, is_attached}
use Rattle.one_copy_model.specs.Deaths.{stage_at}
use Rattle.one_copy_model.specs.Tracking.{Tracked, in_commit}
use Rattle.one_copy_model.specs.Standing.{Nowhere, Fresh, Ahead, standing_in, standing_at, standing_by}
use Rattle.one_copy_model.specs.Invariant.{Invariant, FitsPoint, fits_stage}
use Rattle.one_copy_model.proofs.Turning.{live_there}
use Rattle.one_copy_model.proofs.Finding.{is_found, nobody_attached}
use Rattle.one_copy_model.proofs.Livings.{ahead_where}
use Rattle.one_copy_laws.proofs.FallsDying.{falls_kept}
use Rattle.one_copy_laws.proofs.DecidedParting.{left, few, behind, facts_left}
use Rattle.one_copy_laws.proofs.DecidedAlone.{alone_holds}
use Rattle.one_copy_laws.proofs.DecidedEnds.{ends_ahead}
use Rattle.recovery_laws.specs.Ready.{without_backend}

-- Who is ahead of the single run is in no entered commit.

outside_at : (phase : GatePhase) (point : Point) (asks : List Request) → standing_at phase point ≡ Ahead asks → in_commit phase ≡ false
outside_at phases.Out point asks e = refl
outside_at phases.InSnapshot point asks e = refl
outside_at (phases.Live changed written) point asks e = refl
outside_at phases.InCommit (LeaveSnapshotDue work) asks e = absurd (let z : Fresh ≡ Ahead asks = e in cc)
outside_at phases.InCommit (UnwindDue ending) asks e = absurd (let z : Nowhere ≡ Ahead asks = e in cc)
outside_at phases.InCommit (LeaveCommitDue ending) asks e = absurd (let z : Nowhere ≡ Ahead asks = e in cc)
outside_at phases.InCommit (FinishDue ending) asks e = absurd (let z : Nowhere ≡ Ahead asks = e in cc)
outside_at phases.InCommit point asks e = absurd (let z : Nowhere ≡ Ahead asks = e in cc)

outside_in : (x : Stage) (phase : GatePhase) (told : Option Answer) (asks : List Request) → standing_in x told ≡ Ahead asks → fits_stage x phase ≡ true → in_commit phase ≡ false
outside_in x phases.Out told asks e f = refl
outside_in x phases.InSnapshot told asks e f = refl
outside_in x (phases.Live changed written) told asks e f = refl
outside_in Committing phases.InCommit told asks e f = absurd (ends_ahead Committing told asks refl e)
outside_in Closing phases.InCommit told asks e f = absurd (ends_ahead Closing told asks refl e)
outside_in (RollingBack ending) phases.InCommit told asks e f = absurd (ends_ahead (RollingBack ending) told asks refl e)
outside_in (Opening work) phases.InCommit told asks e f = absurd (let z : false ≡ true = f in cc)
outside_in (Reading work ticket) phases.InCommit told asks e f = absurd (let z : false ≡ true = f in cc)
outside_in (Running work) phases.InCommit told asks e f = absurd (let z : false ≡ true = f in cc)
outside_in (Locking work table) phases.InCommit told asks e f = absurd (let z : false ≡ true = f in cc)
outside_in (Inserting work posted) phases.InCommit told asks e f = absurd (let z : false ≡ true = f in cc)

outside_by : (found : Option Stage) (phase : GatePhase) (point : Point) (told : Option Answer) (asks : List Request) → standing_by phase point found told ≡ Ahead asks → FitsPoint found point phase → in_commit phase ≡ false
outside_by (Some x) phase point told asks e f = outside_in x phase told asks e f
outside_by None phase point told asks e f = outside_at phase point asks e

module _ (t : Tracked) (h : Invariant t) (s : SessionId) (b : BackendId) where
  apart : (o : ℕ) → live_there t o ≡ true → in_commit (t.world.machine o).session.gate ≡ false
  apart o live =
      let a = ahead_where t h o live in
      outside_by (stage_at (t.world.machine o).point) (t.world.machine o).session.gate (t.world.machine o).point _ a.2.0 a.2.1 (h.inside o)

  by_first : (first : Option BackendId) → lowest (left t h s b) ≡ first → Invariant (without_backend t b)
  by_first (Some first) found =
      falls_kept (behind t h s b).world t.history t.orders t.done first.number (facts_left t h s b) (is_found (is_attached (left t h s b)) first found)
  by_first None empty =
      alone_holds (behind t h s b).world t.orders t.done (nobody_attached (left t h s b) (few t h s b) empty) empty t.history (facts_left t h s b) apart

  pub gone_kept : Invariant (without_backend t b)
  gone_kept = by_first (lowest (left t h s b)) refl

-- Every detachment that a law covers keeps the invariant: by where it stands, and by who is attached behind it.
use Rattle.std.proofs.Common.{◌≡◌, ℕ, ◌+◌, Bool, true, false, refl, inl, inr}
use Rattle.std.specs.Prelude.{Option, Some, None}
use Rattle.pool_base.specs.declared.session_id.SessionId.{SessionId}
use Rattle.pool_base.specs.declared.backend_id.BackendId.{BackendId}
use Rattle.pool_base.specs.declared.backend_set.BackendSet.{BackendSet}
use Rattle.pool_base.specs.declared.gate_call.GateCall.TheVariants as calls
use Rattle.pool_base.specs.declared.gate_call.GateAnswer.{GateAnswer}
use Rattle.snapshot_gate.specs.Function.{step}
use Rattle.session_machine.specs.declared.action.Cause.{Cause}
use Rattle.session_machine.specs.declared.action.Action.TheVariants as actions
use Rattle.session_machine.specs.declared.action.SessionEvent.TheVariants.{Detached}
use Rattle.session_machine.specs.declared.machine.Heard.{Heard}
use Rattle.session_machine.specs.declared.machine.Session.{Session}
use Rattle.session_machine.specs.declared.machine.Stage.{Stage}
use Rattle.session_machine.specs.declared.machine.Stage.TheVariants.{Opening, Reading, Running, Locking, Inserting, Committing, Closing, RollingBack}
use Rattle.session_machine.specs.declared.machine.Point.{Point}
use Rattle.session_machine.specs.declared.machine.Point.TheVariants.{Resting, EnterDue, LookDue, PostDue, Waiting, LostDue, SplitDue, ChooseDue, ShowDue, LeaveSnapshotDue, UnwindDue, EnterCommitDue, LeaveCommitDue, FinishDue, ReplyDue, EndDue}
use Rattle.session_machine.specs.Answers.{lowest, first_other}
use Rattle.session_machine.specs.Rules.{action_at, request_of, tables_of}
use Rattle.one_copy_model.specs.declared.event.Event.TheVariants.{Of}
use Rattle.one_copy_model.specs.World.{MayHappen}
use Rattle.one_copy_model.specs.Tracking.{Tracked, tracked_after}
use Rattle.one_copy_model.specs.Invariant.{Invariant}
use Rattle.one_copy_laws.proofs.FallsLeaving.{lost_kept}
use Rattle.one_copy_laws.proofs.FallsSplitting.{split_next_kept, split_on_kept}
use Rattle.one_copy_laws.proofs.DecidedSame.{kind_is}
use Rattle.one_copy_laws.proofs.DecidedOpens.{opens_decided_kept}
use Rattle.one_copy_laws.proofs.DecidedLocks.{locks_decided_kept}
use Rattle.one_copy_laws.proofs.DecidedEnds.{ends_decided_kept}
use Rattle.one_copy_laws.proofs.DecidedLast.{last_lost_kept, last_split_kept}
use Rattle.one_copy_laws.specs.Covered.{is_covered}
use Rattle.one_copy_laws.proofs.DetachmentsAgreeing.{reads_agreed}
use Rattle.one_copy_laws.proofs.DetachmentsRefuses.{refuses_decided_kept}
use Rattle.one_copy_laws.proofs.DetachmentsResults.{result_decided_kept}

module _ (t : Tracked) (h : Invariant t) (s : SessionId) (b : BackendId) (cause : Cause) (answer : GateAnswer)
    (may : MayHappen t.world (Of s (Detached b cause answer))) where
  abbrev Kept : Type 0
  Kept = Invariant (tracked_after t (Of s (Detached b cause answer)))

  abbrev those : Option BackendId
  those = lowest (step t.world.gate (calls.Detach b)).0.attached.bits

  -- a kept answer decides
  module _ (first : BackendId) (there : those ≡ Some first)
      (best own : Heard) (among : BackendSet)
      (none : first_other among.bits best.answer (own.b.number + 1) (t.world.machine s.number).session.heard ≡ None) where
    decides : (stage : Stage) → (t.world.machine s.number).point ≡ SplitDue stage best own among false → is_covered stage ≡ true → Kept
    decides (Opening work) at e = opens_decided_kept t s b first cause answer work best own among h at none there may
    decides (Reading work ticket) at e = absurd (reads_agreed t s.number work ticket best own among false h at)
    decides (Running work) at e = elim (kind_is best.answer) [
      | inl c ↦ refuses_decided_kept t s b first cause answer (Running work) best own among c.0 h at refl c.1 none there may
      | inr right ↦ result_decided_kept t s b first cause answer work best own among h at right none there may
    ]
    decides (Locking work table) at e = elim (kind_is best.answer) [
      | inl c ↦ refuses_decided_kept t s b first cause answer (Locking work table) best own among c.0 h at refl c.1 none there may
      | inr right ↦ locks_decided_kept t s b first cause answer work table best own among h at right none there may
    ]
    decides (Inserting work posted) at e = absurd (let z : false ≡ true = e in cc)
    decides Committing at e = ends_decided_kept t s b first cause answer Committing best own among h at refl none there may
    decides Closing at e = ends_decided_kept t s b first cause answer Closing best own among h at refl none there may
    decides (RollingBack ending) at e = ends_decided_kept t s b first cause answer (RollingBack ending) best own among h at refl none there may

  module _ (covered : (first : BackendId) (stage : Stage) (best own : Heard) (among : BackendSet) → those ≡ Some first
      → (t.world.machine s.number).point ≡ SplitDue stage best own among false
      → first_other among.bits best.answer (own.b.number + 1) (t.world.machine s.number).session.heard ≡ None
      → is_covered stage ≡ true) where
    lost : (stage : Stage) (c : BackendId) (before more : ℕ) → (t.world.machine s.number).point ≡ LostDue stage c before more → Kept
    lost stage c before more at = by those refl
      where
        by : (found : Option BackendId) → those ≡ found → Kept
        by (Some first) there = lost_kept t s b c first cause answer stage before more h at there may
        by None empty = last_lost_kept t s b c cause answer stage before more h at empty may

    differs : (stage : Stage) (best own : Heard) (among : BackendSet) (more : Bool) → (t.world.machine s.number).point ≡ SplitDue stage best own among more → Kept
    differs stage best own among more at = by those refl
      where
        goes : (first : BackendId) → those ≡ Some first → (on : Bool) → (t.world.machine s.number).point ≡ SplitDue stage best own among on → (found : Option Heard)
            → first_other among.bits best.answer (own.b.number + 1) (t.world.machine s.number).session.heard ≡ found → Kept
        goes first there on here (Some mine) e = split_next_kept t s b first cause answer stage best own mine among on h here e there may
        goes first there true here None e = split_on_kept t s b first cause answer stage best own among h here e there may
        goes first there false here None e = decides first there best own among e stage here (covered first stage best own among there here e)

        by : (found : Option BackendId) → those ≡ found → Kept
        by (Some first) there = goes first there more at (first_other among.bits best.answer (own.b.number + 1) (t.world.machine s.number).session.heard) refl
        by None empty = last_split_kept t s b cause answer stage best own among more h at empty may

    -- a detachment is due at these two points alone
    by_point : (session : Session) (point : Point) → (t.world.machine s.number).point ≡ point → action_at session point ≡ actions.Detach b cause → Kept
    by_point session (LostDue stage c before more) at e = lost stage c before more at
    by_point session (SplitDue stage best own among more) at e = differs stage best own among more at
    by_point session Resting at e = absurd (let z : actions.Rest ≡ actions.Detach b cause = e in cc)
    by_point session (EnterDue work) at e = absurd (let z : actions.Gate calls.EnterSnapshot ≡ actions.Detach b cause = e in cc)
    by_point session (LookDue stage) at e = absurd (let z : actions.Gate calls.Look ≡ actions.Detach b cause = e in cc)
    by_point session (PostDue stage c) at e = absurd (let z : actions.Post c (request_of stage) ≡ actions.Detach b cause = e in cc)
    by_point session (Waiting stage c) at e = absurd (let z : actions.WaitFor c ≡ actions.Detach b cause = e in cc)
    by_point session (ChooseDue work) at e = absurd (let z : actions.Gate calls.Look ≡ actions.Detach b cause = e in cc)
    by_point session ShowDue at e = absurd (let z : actions.Gate calls.Look ≡ actions.Detach b cause = e in cc)
    by_point session (LeaveSnapshotDue work) at e = absurd (let z : actions.Gate calls.LeaveSnapshot ≡ actions.Detach b cause = e in cc)
    by_point session (UnwindDue ending) at e = absurd (let z : actions.Gate calls.LeaveSnapshot ≡ actions.Detach b cause = e in cc)
    by_point session EnterCommitDue at e = absurd (let z : actions.Gate (calls.EnterCommit (tables_of session.gate)) ≡ actions.Detach b cause = e in cc)
    by_point session (LeaveCommitDue ending) at e = absurd (let z : actions.Gate calls.LeaveCommit ≡ actions.Detach b cause = e in cc)
    by_point session (FinishDue ending) at e = absurd (let z : actions.Gate calls.Finish ≡ actions.Detach b cause = e in cc)
    by_point session (ReplyDue outcome) at e = absurd (let z : actions.Reply outcome session.status ≡ actions.Detach b cause = e in cc)
    by_point session EndDue at e = absurd (let z : actions.End ≡ actions.Detach b cause = e in cc)

    pub detaches : Kept
    detaches = by_point (t.world.machine s.number).session (t.world.machine s.number).point refl may.0.0

pub detached_kept : (t : Tracked) (s : SessionId) (b : BackendId) (cause : Cause) (answer : GateAnswer) → Invariant t
    → ((first : BackendId) (stage : Stage) (best own : Heard) (among : BackendSet) → lowest (step t.world.gate (calls.Detach b)).0.attached.bits ≡ Some first
    → (t.world.machine s.number).point ≡ SplitDue stage best own among false
    → first_other among.bits best.answer (own.b.number + 1) (t.world.machine s.number).session.heard ≡ None
    → is_covered stage ≡ true)
    → MayHappen t.world (Of s (Detached b cause answer)) → Invariant (tracked_after t (Of s (Detached b cause answer)))
detached_kept t s b cause answer h covered may = detaches t h s b cause answer may covered

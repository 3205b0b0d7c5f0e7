-- Where want of memory comes, a session may leave, but for a serial insert that is under way.
use Rattle.std.proofs.Common.{◌≡◌, Bool, true, false, Result, Ok, Err, IfErr, refl}
use Rattle.std.specs.Prelude.{not}
use Rattle.backend_trait.specs.declared.request.Request.TheVariants as requests
use Rattle.session_machine.specs.declared.machine.Stage.TheVariants.{Opening, Reading, Running, Locking, Inserting, Committing, Closing, RollingBack}
use Rattle.session_machine.specs.declared.machine.Point.{Point}
use Rattle.session_machine.specs.declared.machine.Point.TheVariants.{Resting, EnterDue, LookDue, PostDue, Waiting, LostDue, SplitDue, ChooseDue, ShowDue, LeaveSnapshotDue, UnwindDue, EnterCommitDue, LeaveCommitDue, FinishDue, ReplyDue, EndDue}
use Rattle.session_machine.specs.declared.machine.Machine.{Machine}
use Rattle.session_machine.specs.Allowed.{may_leave}
use Rattle.session_engine.specs.Sound.{is_select, wants_memory, is_serial_posted, is_classed_in}

-- a serial insert is no SELECT
no_select : {X : Type 0} (t : Bool) → not t ≡ true → t ≡ true → X
no_select true classed wants = absurd (cc)
no_select false classed wants = absurd (cc)

want_leaves : (p : Point) → is_classed_in p ≡ true → wants_memory p ≡ true → is_serial_posted p ≡ false → may_leave p ≡ true
want_leaves (SplitDue (Opening work) best own among more) classed wants idle = refl
want_leaves (SplitDue (Reading work ticket) best own among more) classed wants idle = refl
want_leaves (SplitDue (Running work) best own among more) classed wants idle = refl
want_leaves (SplitDue (Locking work table) best own among more) classed wants idle = refl
want_leaves (SplitDue (Inserting work sent) best own among more) classed wants idle = no_select (is_select (requests.Run work.statement)) classed wants
want_leaves (SplitDue Committing best own among more) classed wants idle = absurd (cc)
want_leaves (SplitDue Closing best own among more) classed wants idle = refl
want_leaves (SplitDue (RollingBack ending) best own among more) classed wants idle = refl
want_leaves Resting classed wants idle = absurd (cc)
want_leaves (EnterDue work) classed wants idle = absurd (cc)
want_leaves (LookDue stage) classed wants idle = absurd (cc)
want_leaves (PostDue (Opening work) c) classed wants idle = refl
want_leaves (PostDue (Reading work ticket) c) classed wants idle = refl
want_leaves (PostDue (Running work) c) classed wants idle = refl
want_leaves (PostDue (Locking work table) c) classed wants idle = refl
want_leaves (PostDue (Inserting work false) c) classed wants idle = refl
want_leaves (PostDue (Inserting work true) c) classed wants idle = absurd (cc)
want_leaves (PostDue Committing c) classed wants idle = absurd (cc)
want_leaves (PostDue Closing c) classed wants idle = refl
want_leaves (PostDue (RollingBack ending) c) classed wants idle = refl
want_leaves (Waiting stage c) classed wants idle = absurd (cc)
want_leaves (LostDue stage c x y) classed wants idle = absurd (cc)
want_leaves (ChooseDue work) classed wants idle = absurd (cc)
want_leaves ShowDue classed wants idle = absurd (cc)
want_leaves (LeaveSnapshotDue work) classed wants idle = absurd (cc)
want_leaves (UnwindDue ending) classed wants idle = absurd (cc)
want_leaves EnterCommitDue classed wants idle = absurd (cc)
want_leaves (LeaveCommitDue ending) classed wants idle = absurd (cc)
want_leaves (FinishDue ending) classed wants idle = absurd (cc)
want_leaves (ReplyDue outcome) classed wants idle = absurd (cc)
want_leaves EndDue classed wants idle = absurd (cc)

pub want_may_leave : {A E : Type 0} (r : Result A E) (m : Machine) → is_classed_in m.point ≡ true → IfErr r (λ _. wants_memory m.point ≡ true)
    → IfErr r (λ _. is_serial_posted m.point ≡ false → may_leave m.point ≡ true)
want_may_leave (Ok x) m classed wants = tt
want_may_leave (Err e) m classed wants = want_leaves m.point classed wants

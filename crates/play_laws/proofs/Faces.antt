-- Machines that are alike stand at the same point, in the same block and at the same place of the gate.
use Rattle.std.proofs.Common.{◌≡◌, refl, sym, ap, ◌∙◌}
use Rattle.session_machine.specs.declared.status.Status.{Status}
use Rattle.session_machine.specs.declared.machine.GatePhase.{GatePhase}
use Rattle.session_machine.specs.declared.machine.Machine.{Machine}
use Rattle.session_machine.specs.declared.machine.Point.{Point}
use Rattle.session_machine.specs.declared.machine.Point.TheVariants.{Resting, EnterDue, LookDue, PostDue, Waiting, LostDue, SplitDue, ChooseDue, ShowDue, LeaveSnapshotDue, UnwindDue, EnterCommitDue, LeaveCommitDue, FinishDue, ReplyDue, EndDue}
use Rattle.session_machine.specs.declared.machine.Session.{Session}
use Rattle.session_machine.specs.Rules.{due}
use Rattle.session_engine.specs.Tidying.{tidied, tidied_at}

record Face : Type 0 where
  point : Point
  status : Status
  gate : GatePhase

abbrev face : Machine → Face
face m = record { point = m.point; status = m.session.status; gate = m.session.gate }

face_at : (session : Session) (point : Point) → face (tidied_at session point) ≡ face (due session point)
face_at session (LookDue stage) = refl
face_at session (PostDue stage b) = refl
face_at session (Waiting stage b) = refl
face_at session (LostDue stage b before later) = refl
face_at session (SplitDue stage best own among more) = refl
face_at session Resting = refl
face_at session (EnterDue work) = refl
face_at session (ChooseDue work) = refl
face_at session ShowDue = refl
face_at session (LeaveSnapshotDue work) = refl
face_at session (UnwindDue ending) = refl
face_at session EnterCommitDue = refl
face_at session (LeaveCommitDue ending) = refl
face_at session (FinishDue ending) = refl
face_at session (ReplyDue outcome) = refl
face_at session EndDue = refl

faces : (x m : Machine) → tidied x ≡ tidied m → face x ≡ face m
faces x m alike = sym (face_at x.session x.point) ∙ (ap face alike ∙ face_at m.session m.point)

pub same_point : (x m : Machine) → tidied x ≡ tidied m → x.point ≡ m.point
same_point x m alike = ap (λ (f : Face). f.point) (faces x m alike)

pub same_status : (x m : Machine) → tidied x ≡ tidied m → x.session.status ≡ m.session.status
same_status x m alike = ap (λ (f : Face). f.status) (faces x m alike)

pub same_gate : (x m : Machine) → tidied x ≡ tidied m → x.session.gate ≡ m.session.gate
same_gate x m alike = ap (λ (f : Face). f.gate) (faces x m alike)

-- The answers of a chain are read while the chain is under way. A session is tidied where it has dropped the answers that
-- nothing reads any more.
use Rattle.std.specs.Prelude.{List, [], ◌∷◌}
use Rattle.session_machine.specs.declared.action.SessionEvent.{SessionEvent}
use Rattle.session_machine.specs.declared.machine.Point.{Point}
use Rattle.session_machine.specs.declared.machine.Point.TheVariants.{Resting, EnterDue, LookDue, PostDue, Waiting, LostDue, SplitDue, ChooseDue, ShowDue, LeaveSnapshotDue, UnwindDue, EnterCommitDue, LeaveCommitDue, FinishDue, ReplyDue, EndDue}
use Rattle.session_machine.specs.declared.machine.Session.{Session}
use Rattle.session_machine.specs.declared.machine.Machine.{Machine}
use Rattle.session_machine.specs.Rules.{due, after}

abbrev pub bare : Session → Session
bare session = record session { heard = [] }

abbrev pub tidied_at : Session → Point → Machine
tidied_at session (LookDue stage) = due session (LookDue stage)
tidied_at session (PostDue stage b) = due session (PostDue stage b)
tidied_at session (Waiting stage b) = due session (Waiting stage b)
tidied_at session (LostDue stage b before later) = due session (LostDue stage b before later)
tidied_at session (SplitDue stage best own among more) = due session (SplitDue stage best own among more)
tidied_at session Resting = due (bare session) Resting
tidied_at session (EnterDue work) = due (bare session) (EnterDue work)
tidied_at session (ChooseDue work) = due (bare session) (ChooseDue work)
tidied_at session ShowDue = due (bare session) ShowDue
tidied_at session (LeaveSnapshotDue work) = due (bare session) (LeaveSnapshotDue work)
tidied_at session (UnwindDue ending) = due (bare session) (UnwindDue ending)
tidied_at session EnterCommitDue = due (bare session) EnterCommitDue
tidied_at session (LeaveCommitDue ending) = due (bare session) (LeaveCommitDue ending)
tidied_at session (FinishDue ending) = due (bare session) (FinishDue ending)
tidied_at session (ReplyDue outcome) = due (bare session) (ReplyDue outcome)
tidied_at session EndDue = due (bare session) EndDue

abbrev pub tidied : Machine → Machine
tidied m = tidied_at m.session m.point

-- where events lead, one after another
abbrev pub after_all : Machine → List SessionEvent → Machine
after_all m [] = m
after_all m (event ∷ events) = after_all (after m event) events

-- Where the commit of changes is under way: from the grant of its entry at the gate to the grant of its leaving.
use Rattle.std.specs.Prelude.{⊤}
use Rattle.session_machine.specs.declared.machine.Stage.{Stage}
use Rattle.session_machine.specs.declared.machine.Stage.TheVariants.{Opening, Reading, Running, Locking, Inserting, Committing, Closing, RollingBack}
use Rattle.session_machine.specs.declared.machine.Point.{Point}
use Rattle.session_machine.specs.declared.machine.Point.TheVariants.{Resting, EnterDue, LookDue, PostDue, Waiting, LostDue, SplitDue, ChooseDue, ShowDue, LeaveSnapshotDue, UnwindDue, EnterCommitDue, LeaveCommitDue, FinishDue, ReplyDue, EndDue}

abbrev pub IsOfCommit : Stage → Type 0
IsOfCommit (Opening work) = ⊥
IsOfCommit (Reading work ticket) = ⊥
IsOfCommit (Running work) = ⊥
IsOfCommit (Locking work table) = ⊥
IsOfCommit (Inserting work posted) = ⊥
IsOfCommit Committing = ⊤
IsOfCommit Closing = ⊥
IsOfCommit (RollingBack ending) = ⊥

abbrev pub IsCommitting : Point → Type 0
IsCommitting Resting = ⊥
IsCommitting (EnterDue work) = ⊥
IsCommitting (LookDue stage) = IsOfCommit stage
IsCommitting (PostDue stage b) = IsOfCommit stage
IsCommitting (Waiting stage b) = IsOfCommit stage
IsCommitting (LostDue stage b before after) = IsOfCommit stage
IsCommitting (SplitDue stage best own among more) = IsOfCommit stage
IsCommitting (ChooseDue work) = ⊥
IsCommitting ShowDue = ⊥
IsCommitting (LeaveSnapshotDue work) = ⊥
IsCommitting (UnwindDue ending) = ⊥
IsCommitting EnterCommitDue = ⊥
IsCommitting (LeaveCommitDue ending) = ⊤
IsCommitting (FinishDue ending) = ⊥
IsCommitting (ReplyDue outcome) = ⊥
IsCommitting EndDue = ⊥

-- it is over: its reply is due, or the end of a session that has no reply
abbrev pub IsOver : Point → Type 0
IsOver Resting = ⊥
IsOver (EnterDue work) = ⊥
IsOver (LookDue stage) = ⊥
IsOver (PostDue stage b) = ⊥
IsOver (Waiting stage b) = ⊥
IsOver (LostDue stage b before after) = ⊥
IsOver (SplitDue stage best own among more) = ⊥
IsOver (ChooseDue work) = ⊥
IsOver ShowDue = ⊥
IsOver (LeaveSnapshotDue work) = ⊥
IsOver (UnwindDue ending) = ⊥
IsOver EnterCommitDue = ⊥
IsOver (LeaveCommitDue ending) = ⊥
IsOver (FinishDue ending) = ⊥
IsOver (ReplyDue outcome) = ⊤
IsOver EndDue = ⊤

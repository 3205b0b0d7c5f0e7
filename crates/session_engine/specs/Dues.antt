-- What is due, in the words of the session machine.
use Rattle.std.specs.Prelude.{List, length, ⊤}
use Rattle.session_orders.specs.declared.outcome.Tag.TheVariants as tags
use Rattle.session_orders.specs.declared.outcome.Outcome.{Outcome}
use Rattle.session_orders.specs.declared.outcome.Outcome.TheVariants as outcomes
use Rattle.session_machine.specs.declared.machine.Heard.{Heard}
use Rattle.session_machine.specs.declared.machine.Point.{Point}
use Rattle.session_machine.specs.declared.machine.Point.TheVariants as points
use Rattle.sql_eval.specs.declared.row.Row.{Row}
use Rattle.session_engine.specs.declared.due.Due.{Due}
use Rattle.session_engine.specs.declared.due.Due.TheVariants.{Resting, EnterDue, LookDue, PostDue, Waiting, LostDue, SplitDue, ChooseDue, ShowDue, LeaveSnapshotDue, UnwindDue, EnterCommitDue, LeaveCommitDue, FinishDue, ReplyDue, RowsDue, EndDue}
use Rattle.session_engine.specs.Places.{heard_at, rows_in}

abbrev pub rows_reply : List Row → Outcome
rows_reply rows = outcomes.Rows rows (tags.Select (length rows))

-- the answers that it names stand among those of the chain
abbrev pub point_of : List Heard → Due → Point
point_of heard Resting = points.Resting
point_of heard (EnterDue work) = points.EnterDue work
point_of heard (LookDue stage) = points.LookDue stage
point_of heard (PostDue stage b) = points.PostDue stage b
point_of heard (Waiting stage b) = points.Waiting stage b
point_of heard (LostDue stage b before after) = points.LostDue stage b before after
point_of heard (SplitDue stage best own among more) =
    points.SplitDue stage (heard_at heard best) (heard_at heard own) among more
point_of heard (ChooseDue work) = points.ChooseDue work
point_of heard ShowDue = points.ShowDue
point_of heard (LeaveSnapshotDue work) = points.LeaveSnapshotDue work
point_of heard (UnwindDue ending) = points.UnwindDue ending
point_of heard EnterCommitDue = points.EnterCommitDue
point_of heard (LeaveCommitDue ending) = points.LeaveCommitDue ending
point_of heard (FinishDue ending) = points.FinishDue ending
point_of heard (ReplyDue outcome) = points.ReplyDue outcome
point_of heard (RowsDue best) = points.ReplyDue (rows_reply (rows_in (heard_at heard best).answer))
point_of heard EndDue = points.EndDue

-- the kinds of what is due

abbrev pub IsPosting : Due → Type 0
IsPosting (PostDue stage b) = ⊤
IsPosting due = ⊥

abbrev pub IsWaiting : Due → Type 0
IsWaiting (Waiting stage b) = ⊤
IsWaiting due = ⊥

abbrev pub IsParting : Due → Type 0
IsParting (LostDue stage b before after) = ⊤
IsParting (SplitDue stage best own among more) = ⊤
IsParting due = ⊥

abbrev pub IsReplying : Due → Type 0
IsReplying (ReplyDue outcome) = ⊤
IsReplying (RowsDue best) = ⊤
IsReplying due = ⊥

abbrev pub IsEnding : Due → Type 0
IsEnding EndDue = ⊤
IsEnding due = ⊥

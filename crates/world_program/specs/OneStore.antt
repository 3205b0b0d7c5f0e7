-- What holds of the schedules of a world that begins so: one copy, agreement, acknowledged commits.
use Rattle.std.specs.Prelude.{List}
use Rattle.one_copy_model.specs.declared.event.Event.{Event}
use Rattle.one_copy_model.specs.Tracking.{first_tracked, tracked_all}
use Rattle.one_copy_model.specs.Replies.{AllAcknowledged}
use Rattle.one_copy_model.specs.Statement.{IsOneCopy, ReplicasAgree}
use Rattle.world_program.specs.declared.replaying.Start.{Start}

pub record IsOfOneStore (start : Start) (events : List Event) : Type 0 where
  -- the replies are those of one run of one store
  pub one_copy : IsOneCopy start.catalogue start.policy start.attached events
  -- behind the last event, where no session is in a commit, each attached backend has that run's rows, and its next numbers where nobody
  -- inserts
  pub agree : ReplicasAgree (tracked_all (first_tracked start.catalogue start.policy start.attached) events)
  -- at the reply to a commit each backend that is attached then has done it
  pub acknowledged : AllAcknowledged (first_tracked start.catalogue start.policy start.attached) events

-- Every schedule is of one store.
use Rattle.std.proofs.Common.{ℕ, ◌<◌, List}
use Rattle.schema.specs.Allowed.{AreAllowed}
use Rattle.one_copy_model.specs.declared.event.Event.{Event}
use Rattle.one_copy_model.specs.World.{IsSchedule}
use Rattle.one_copy_laws.proofs.InductionSchedules.{one_copy, agreement, commits_done}
use Rattle.world_program.specs.declared.replaying.Start.{Start}
use Rattle.world_program.specs.Starting.{start_of}
use Rattle.world_program.specs.OneStore.{IsOfOneStore}

pub of_one_store : (start : Start) (events : List Event) → AreAllowed start.catalogue → start.attached.bits < 256 → IsSchedule (start_of start) events → IsOfOneStore start events
of_one_store start events allowed few may = record {
  one_copy = one_copy start.catalogue start.policy start.attached events allowed few may;
  agree = agreement start.catalogue start.policy start.attached events allowed few may;
  acknowledged = commits_done start.catalogue start.policy start.attached events allowed few may;
}

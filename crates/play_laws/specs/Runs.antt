-- Journals whose events are a schedule of the replicated world.
use Rattle.std.specs.Prelude.{◌≡◌, ℕ, List, ◌++◌, length}
use Rattle.one_copy_model.specs.declared.event.Event.{Event}
use Rattle.schema.specs.declared.catalogue.TableDef.{TableDef}
use Rattle.one_copy_model.specs.World.{World, MayHappen, IsSchedule, after}
use Rattle.world_program.specs.declared.replaying.Start.{Start}
use Rattle.world_program.specs.OneStore.{IsOfOneStore}
use Rattle.world_program.specs.Starting.{start_of}
use Rattle.world_program.specs.Alike.{AreAlike}
use Rattle.play_laws.specs.Lines.{line_of, lines_of}

-- these lines are those of so many events, each of which may come where it stands
pub record IsRunOf (start : Start) (lines : List ℕ) (n : ℕ) : Type 0 where
  pub events : List Event
  pub schedule : IsSchedule (start_of start) events
  pub printed : lines_of start.catalogue events ≡ lines
  pub count : length events ≡ n

-- they are a schedule, and so of one store
pub record IsRunOfOneStore (start : Start) (lines : List ℕ) (n : ℕ) : Type 0 where
  pub run : IsRunOf start lines n
  pub one_store : IsOfOneStore start run.events

-- an event with that line may come in a world, and leads to a world that is like the next
pub record Leads (tables : List TableDef) (w : World) (line : List ℕ) (next : World) : Type 0 where
  pub event : Event
  pub printed : line_of tables event ≡ line
  pub may : MayHappen w event
  pub alike : AreAlike next (after w event)

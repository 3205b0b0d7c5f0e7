-- The world at its start.
use Rattle.one_copy_model.specs.World.{World, first_world}
use Rattle.world_program.specs.declared.replaying.Start.{Start}

abbrev pub start_of : Start → World
start_of start = first_world start.catalogue start.policy start.attached

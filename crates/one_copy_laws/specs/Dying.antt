-- Who dies in the run of a serial insert.
use Rattle.std.specs.Prelude.{Bool, true, false, Option, Some}
use Rattle.session_machine.specs.declared.machine.Stage.{Stage}
use Rattle.session_machine.specs.declared.machine.Stage.TheVariants.{Inserting}

-- a serial insert, which dies with its lock and its run
abbrev pub is_inserting : Option Stage → Bool
is_inserting (Some (Inserting work posted)) = true
is_inserting stage = false

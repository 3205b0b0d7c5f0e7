-- Which detachments a law covers, where that of the last backend that differs lets the kept answer decide.
use Rattle.std.specs.Prelude.{Bool, true, false}
use Rattle.session_machine.specs.declared.machine.Stage.{Stage}
use Rattle.session_machine.specs.declared.machine.Stage.TheVariants.{Inserting}

-- all but those of the run of a serial insert
abbrev pub is_covered : Stage → Bool
is_covered (Inserting work posted) = false
is_covered stage = true

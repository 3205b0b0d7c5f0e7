-- The stages of an ending.
use Rattle.std.specs.Prelude.{Bool, true, false}
use Rattle.session_machine.specs.declared.machine.Stage.{Stage}
use Rattle.session_machine.specs.declared.machine.Stage.TheVariants.{Committing, Closing, RollingBack}

-- a chain that ends a transaction: a commit, with changes or without, and a rollback
abbrev pub is_ending : Stage → Bool
is_ending Committing = true
is_ending Closing = true
is_ending (RollingBack ending) = true
is_ending stage = false

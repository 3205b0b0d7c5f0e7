-- The roll of a backend, by the numbers of the sessions.
use Rattle.std.specs.Prelude.{ℕ, List, [], slice_index_or}
use Rattle.backend_rolls.specs.declared.known.Known.{Known}
use Rattle.backend_rolls.specs.declared.roll.Roll.{Roll}
use Rattle.backend_rolls.specs.Known.{nothing_known}

abbrev pub known_in : Roll → ℕ → Known
known_in roll s = slice_index_or roll.known s nothing_known

abbrev pub no_roll : Roll
no_roll = record { known = [] }

abbrev pub roll_at : List Roll → ℕ → Roll
roll_at rolls b = slice_index_or rolls b no_roll

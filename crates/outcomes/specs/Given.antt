-- What a statement gives, as the program has it.
use Rattle.std.specs.Prelude.{map}
use Rattle.backend_trait.specs.Effect.{Given, Fails, Gives, changes_of}
use Rattle.outcomes.specs.declared.outcome.Outcome.{Outcome}
use Rattle.outcomes.specs.declared.outcome.Outcome.TheVariants as outcomes
use Rattle.outcomes.specs.Spots.{place_of}

abbrev pub given_in : Outcome → Given
given_in (outcomes.Fails code) = Fails code.bytes
given_in (outcomes.Gives answer changes places) = Gives answer (changes_of changes.items) (map place_of places.items)

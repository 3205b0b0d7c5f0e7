-- The next numbers that a store keeps.
use Rattle.std.specs.Prelude.{ℕ, ℤ, Option}
use Rattle.outcomes.specs.declared.serials.NextNumbers.{NextNumbers}
use Rattle.outcomes.specs.Positive.{next_in}

abbrev pub next_of : NextNumbers → ℕ → Option ℤ
next_of numbers = next_in numbers.all

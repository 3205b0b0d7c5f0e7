-- What the reader of whole numbers answers.
use Rattle.std.specs.Prelude.{ℕ, List, ℤ, FitsSigned}
use Rattle.std.specs.Int.{w64}
use Rattle.pg_values.specs.Text.{IsNumberText}
use Rattle.pg_values.specs.declared.word_reader.Whole.{Whole}
use Rattle.pg_values.specs.declared.word_reader.Whole.TheVariants.{Misspelled, TooLarge, Fits}

abbrev pub IsWholeRead : List ℕ → Whole → Type 0
IsWholeRead text Misspelled = (number : ℤ) → ¬ (IsNumberText text number)
IsWholeRead text TooLarge = (number : ℤ) × IsNumberText text number × ¬ (FitsSigned w64 number)
IsWholeRead text (Fits number) = IsNumberText text number × FitsSigned w64 number

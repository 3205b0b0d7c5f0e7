-- How a moment is written in a statement.
use Rattle.std.specs.Prelude.{◌≡◌, ◌++◌, ℕ, ℤ, List, codes}
use Rattle.pg_values.specs.Moments.{IsPrintedMoment}

-- TIMESTAMPTZ, and the text form of the moment in quotes
abbrev pub IsLiteralOf : ℤ → List ℕ → Type 0
IsLiteralOf moment text = (printed : List ℕ) × IsPrintedMoment moment printed × (text ≡ codes "TIMESTAMPTZ '" ++ (printed ++ codes "'"))

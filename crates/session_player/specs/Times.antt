-- The moment that a line of a script sets.
use Rattle.std.specs.Prelude.{ℕ, ℤ, List, Option, Some, None}
use Rattle.pg_values.specs.declared.col_type.ColType.TheVariants as kind
use Rattle.pg_values.specs.declared.value.Value.TheVariants as value
use Rattle.pg_values.specs.Answers.{ReadsText}

-- a text is a text form of that moment
abbrev pub IsMomentOf : List ℕ → ℤ → Type 0
IsMomentOf text micros = ReadsText kind.Moment text (value.Moment micros)

-- the moment of a text, or it is none
abbrev pub IsMomentRead : List ℕ → Option ℤ → Type 0
IsMomentRead text (Some micros) = IsMomentOf text micros
IsMomentRead text None = (micros : ℤ) → IsMomentOf text micros → ⊥

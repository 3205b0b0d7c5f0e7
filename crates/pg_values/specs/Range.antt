-- The range of a value.
use Rattle.std.specs.Prelude.{ℕ, ℤ, pos, neg_ℤ, ◌≢◌, ◌≤ℤ◌, All, List}
use Rattle.pg_values.specs.declared.value.Value.{Value}
use Rattle.pg_values.specs.declared.value.Value.TheVariants.{Text, Moment}

-- a moment of the years 1 to 9999, in microseconds since 2000-01-01 00:00 UTC
abbrev pub IsMoment : ℤ → Type 0
IsMoment micros = (neg_ℤ (pos 63_082_281_600_000_000) ≤ℤ micros) × (micros ≤ℤ pos 252_455_615_999_999_999)

abbrev pub HasNoZero : List ℕ → Type 0
HasNoZero text = All (λ b. b ≢ 0) text

-- a value in its range: a text without a zero byte, a moment of the years 1 to 9999
abbrev pub IsInRange : Value → Type 0
IsInRange (Text text) = HasNoZero text
IsInRange (Moment micros) = IsMoment micros
IsInRange _ = Unit {0}

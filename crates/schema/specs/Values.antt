-- How a constant of a schema is taken as a value of a column's type.
use Rattle.std.specs.Prelude.{◌≡◌, ◌&&◌, ℕ, ℤ, pos, neg_ℤ, Bool as Truth, true, false, List, Option, Some, None, if◌then◌else◌}
use Rattle.std.specs.Int.Signed.{le_z}
use Rattle.pg_values.specs.declared.col_type.ColType.{ColType}
use Rattle.pg_values.specs.declared.col_type.ColType.TheVariants as kind
use Rattle.pg_values.specs.declared.value.Value.{Value}
use Rattle.pg_values.specs.declared.value.Value.TheVariants.{Bool, Int4, Int8, Text}
use Rattle.pg_values.specs.Answers.{ReadsText}

abbrev pub is_within : ℤ → ℤ → ℤ → Truth
is_within low high n = le_z low n && le_z n high

-- a whole number is a value of int4 and of int8 where it fits, and of no other type
abbrev pub number_value : ColType → ℤ → Option Value
number_value kind.Int4 n = if is_within (neg_ℤ (pos 2147483648)) (pos 2147483647) n then Some (Int4 n) else None
number_value kind.Int8 n = if is_within (neg_ℤ (pos 9223372036854775808)) (pos 9223372036854775807) n then Some (Int8 n) else None
number_value _ n = None

-- TRUE and FALSE are values of bool alone
abbrev pub truth_value : ColType → Truth → Option Value
truth_value kind.Bool truth = Some (Bool truth)
truth_value _ truth = None

-- what the text form of a value of the type is read as, if it is one
abbrev pub IsTextForm : ColType → List ℕ → Option Value → Type 0
IsTextForm kind text (Some value) = ReadsText kind text value
IsTextForm kind text None = (value : Value) → ReadsText kind text value → ⊥

-- what a string is read as: a text is the string itself, and else it is the text form of a value
abbrev pub StringValue : ColType → List ℕ → Option Value → Type 0
StringValue kind.Text text value = value ≡ Some (Text text)
StringValue kind text value = IsTextForm kind text value

abbrev pub is_number : ColType → Truth
is_number kind.Int4 = true
is_number kind.Int8 = true
is_number _ = false

abbrev pub is_moment : ColType → Truth
is_moment kind.Moment = true
is_moment _ = false

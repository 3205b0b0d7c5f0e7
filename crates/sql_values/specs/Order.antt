-- How values stand to one another, and texts behind one another.
use Rattle.std.specs.Prelude.{◌||◌, ◌++◌, nat_lt, length, ℕ, ℤ, pos, Bool as Truth, true, false, List, [], Ok, Err, if◌then◌else◌}
use Rattle.std.specs.declared.cmp.Ordering.{Ordering}
use Rattle.std.specs.Ordering.{nat_cmp, int_cmp, then_cmp, on, is_eq, is_ne, is_lt, is_le, is_gt, is_ge}
use Rattle.std.specs.Cmp.Lexicographic.{slice_cmp}
use Rattle.pg_values.specs.declared.value.Value.{Value}
use Rattle.pg_values.specs.declared.value.Value.TheVariants as value
use Rattle.sql_tree.specs.declared.expr.Comparison.{Comparison}
use Rattle.sql_tree.specs.declared.expr.Comparison.TheVariants as how
use Rattle.sql_values.specs.Outcome.{Outcome, too_large}

abbrev pub is_null : Value → Truth
is_null value.Null = true
is_null v = false

abbrev pub number_of_bool : Truth → ℤ
number_of_bool true = pos 1
number_of_bool false = pos 0

-- a value by its number: false before true, an int4 and an int8 alike
abbrev pub number_in : Value → ℤ
number_in (value.Bool b) = number_of_bool b
number_in (value.Int4 n) = n
number_in (value.Int8 n) = n
number_in (value.Moment micros) = micros
number_in v = pos 0

abbrev pub text_in : Value → List ℕ
text_in (value.Text text) = text
text_in v = []

-- how two values of one type stand: by their numbers, and texts by their bytes
abbrev pub standing : Value → Value → Ordering
standing = then_cmp (on number_in int_cmp) (on text_in (slice_cmp nat_cmp))

abbrev pub is_so : Comparison → Ordering → Truth
is_so how.Equal stand = is_eq stand
is_so how.Unequal stand = is_ne stand
is_so how.Less stand = is_lt stand
is_so how.AtMost stand = is_le stand
is_so how.Greater stand = is_gt stand
is_so how.AtLeast stand = is_ge stand

-- a comparison: Null where an operand is
abbrev pub compared : Comparison → Value → Value → Value
compared how a b = if is_null a || is_null b then value.Null else value.Bool (is_so how (standing a b))

-- a text that `||` makes has at most 1000000 bytes
abbrev pub as_text : List ℕ → Outcome
as_text text = if nat_lt 1000000 (length text) then Err too_large else Ok (value.Text text)

-- a text behind another: Null where one is none
abbrev pub joined : Value → Value → Outcome
joined (value.Text a) (value.Text b) = as_text (a ++ b)
joined a b = Ok value.Null

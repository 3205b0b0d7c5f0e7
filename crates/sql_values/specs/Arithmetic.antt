-- Whole numbers: int4 of two int4, else int8; a result out of the range of its type is a fault, and so is a divisor 0.
-- Beside Null all is Null.
use Rattle.std.specs.Prelude.{◌&&◌, ℕ, zero, suc, ℤ, pos, negsuc, neg_ℤ, ◌+ℤ◌, ◌-ℤ◌, ◌*ℤ◌, int_le, int_div, int_rem, Bool as Truth, true, false, List, Option, Some, None, Result, Ok, Err, if◌then◌else◌}
use Rattle.pg_values.specs.declared.value.Value.{Value}
use Rattle.pg_values.specs.declared.value.Value.TheVariants as value
use Rattle.sql_tree.specs.declared.expr.ProductSign.{ProductSign}
use Rattle.sql_tree.specs.declared.expr.ProductSign.TheVariants as sign
use Rattle.sql_values.specs.Outcome.{Outcome, out_of_range, by_zero}

-- the number of an int4 or an int8
abbrev pub whole : Value → Option ℤ
whole (value.Int4 n) = Some n
whole (value.Int8 n) = Some n
whole v = None

abbrev pub is_int4 : Value → Truth
is_int4 (value.Int4 n) = true
is_int4 v = false

abbrev pub is_between : ℤ → ℤ → ℤ → Truth
is_between least greatest n = int_le least n && int_le n greatest

-- a number as an int4, and as an int8
abbrev pub as_int4 : ℤ → Outcome
as_int4 n = if is_between (neg_ℤ (pos 2147483648)) (pos 2147483647) n then Ok (value.Int4 n) else Err out_of_range

abbrev pub as_int8 : ℤ → Outcome
as_int8 n =
    if is_between (neg_ℤ (pos 9223372036854775808)) (pos 9223372036854775807) n then Ok (value.Int8 n) else Err out_of_range

-- what a calculation gives, in the type that it has
abbrev pub sized : Truth → Result ℤ (List ℕ) → Outcome
sized narrow (Err code) = Err code
sized narrow (Ok n) = if narrow then as_int4 n else as_int8 n

-- two numbers, or Null where one is none
abbrev pub of_numbers : Truth → (ℤ → ℤ → Result ℤ (List ℕ)) → Option ℤ → Option ℤ → Outcome
of_numbers narrow how (Some a) (Some b) = sized narrow (how a b)
of_numbers narrow how a b = Ok value.Null

abbrev pub calculated : (ℤ → ℤ → Result ℤ (List ℕ)) → Value → Value → Outcome
calculated how a b = of_numbers (is_int4 a && is_int4 b) how (whole a) (whole b)

abbrev pub summed : Truth → ℤ → ℤ → Result ℤ (List ℕ)
summed minus a b = Ok (if minus then a -ℤ b else a +ℤ b)

abbrev pub is_zero : ℤ → Truth
is_zero (pos zero) = true
is_zero (pos (suc n)) = false
is_zero (negsuc n) = false

abbrev pub unless_zero : ℤ → ℤ → Result ℤ (List ℕ)
unless_zero divisor n = if is_zero divisor then Err by_zero else Ok n

-- the quotient goes towards zero, and the rest has the sign of the dividend
abbrev pub multiplied : ProductSign → ℤ → ℤ → Result ℤ (List ℕ)
multiplied sign.Times a b = Ok (a *ℤ b)
multiplied sign.Over a b = unless_zero b (int_div a b)
multiplied sign.Rest a b = unless_zero b (int_rem a b)

-- a number with a minus in front of it
abbrev pub negative : Value → Outcome
negative (value.Int4 n) = as_int4 (neg_ℤ n)
negative (value.Int8 n) = as_int8 (neg_ℤ n)
negative v = Ok value.Null

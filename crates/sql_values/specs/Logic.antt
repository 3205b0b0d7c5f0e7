-- Logic of three values: true, false, and Null for what is not known.
use Rattle.std.specs.Prelude.{Bool as Truth, true, false, not, List, [], ◌∷◌, map, Ok, Err, if◌then◌else◌, unwrap_or}
use Rattle.std.specs.List.{list_any, find}
use Rattle.pg_values.specs.declared.value.Value.{Value}
use Rattle.pg_values.specs.declared.value.Value.TheVariants as value
use Rattle.sql_tree.specs.declared.expr.Comparison.TheVariants as how
use Rattle.sql_values.specs.Outcome.{Outcome, behind, made}
use Rattle.sql_values.specs.Order.{is_null, compared}

-- NOT
abbrev pub opposite : Value → Value
opposite (value.Bool b) = value.Bool (not b)
opposite v = value.Null

abbrev pub opposite_if : Truth → Value → Value
opposite_if negated v = if negated then opposite v else v

abbrev pub is_truth : Truth → Value → Truth
is_truth true (value.Bool b) = b
is_truth false (value.Bool b) = not b
is_truth stop v = false

-- a part with which the walk stops: a fault, and the truth that decides
abbrev pub decides : Truth → Outcome → Truth
decides stop (Ok v) = is_truth stop v
decides stop (Err code) = true

-- true or false
abbrev pub is_known : Value → Truth
is_known (value.Bool b) = true
is_known v = false

abbrev pub is_unknown : Outcome → Truth
is_unknown (Ok v) = not (is_known v)
is_unknown (Err code) = true

-- what it comes to where no part decides
abbrev pub undecided : Truth → List Outcome → Value
undecided stop parts = if list_any is_unknown parts then value.Null else value.Bool (not stop)

-- AND, where false decides, and OR, where true does: from left to right up to the first part that decides
abbrev pub junction : Truth → List Outcome → Outcome
junction stop parts = unwrap_or (find (decides stop) parts) (Ok (undecided stop parts))

-- IN: equal to one of the entries; the entries are not evaluated where the operand is Null
abbrev pub among : Value → List Outcome → Outcome
among v entries = if is_null v then Ok value.Null else junction true (map (made (compared how.Equal v)) entries)

abbrev pub member : Truth → Outcome → List Outcome → Outcome
member negated operand entries = made (opposite_if negated) (behind operand (λ v. among v entries))

-- IS NULL, and IS NOT NULL where it is negated, one behind another
abbrev pub tested : Value → List Truth → Value
tested v [] = v
tested v (negated ∷ more) = tested (value.Bool (if negated then not (is_null v) else is_null v)) more

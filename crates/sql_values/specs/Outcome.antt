-- What the evaluation of an expression comes to, and in which order operands are evaluated.
use Rattle.std.specs.Prelude.{◌≡◌, ℕ, List, [], ◌∷◌, Option, Some, None, Result, Ok, Err, codes}
use Rattle.pg_values.specs.declared.value.Value.{Value}
use Rattle.pg_values.specs.declared.value.Value.TheVariants as value
use Rattle.sql_values.specs.declared.fault.ExprFault.{ExprFault}
use Rattle.sql_values.specs.declared.fault.ExprFault.TheVariants.{Refused, NoMemory}

-- the codes of expressions
abbrev pub out_of_range : List ℕ
out_of_range = codes "22003"

abbrev pub by_zero : List ℕ
by_zero = codes "22012"

abbrev pub too_large : List ℕ
too_large = codes "54000"

-- a value, or the code of the first fault
abbrev pub Outcome : Type 0
Outcome = Result Value (List ℕ)

-- an operand, and what its value comes to
abbrev pub behind : Outcome → (Value → Outcome) → Outcome
behind (Ok value) next = next value
behind (Err code) next = Err code

-- an operand, and what is made of its value
abbrev pub made : (Value → Value) → Outcome → Outcome
made make operand = behind operand (λ value. Ok (make value))

-- the left operand, then the right one, whatever the left one is, and then what the two come to
abbrev pub of_both : (Value → Value → Outcome) → Outcome → Outcome → Outcome
of_both put left right = behind left (λ a. behind right (put a))

-- a chain from the left: each further part is evaluated, and put to what stands to the left of it
abbrev pub chained : {P : Type 0} → (P → Outcome) → (P → Value → Value → Outcome) → Outcome → List P → Outcome
chained part_of put left [] = left
chained part_of put left (part ∷ parts) = chained part_of put (of_both (put part) left (part_of part)) parts

-- a value that may be missing
abbrev pub or_null : Option Value → Value
or_null None = value.Null
or_null (Some value) = value

-- what was evaluated is this; want of memory alone is free
abbrev pub Gives : Result Value ExprFault → Outcome → Type 0
Gives (Ok v) told = told ≡ Ok v
Gives (Err (Refused code)) told = told ≡ Err code.bytes
Gives (Err NoMemory) told = Unit {0}

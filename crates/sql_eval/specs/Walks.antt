-- Walks in which the first code decides.
use Rattle.std.specs.Prelude.{◌≡◌, ℕ, Bool as Truth, true, false, List, [], ◌∷◌, map, Option, Some, None, Result, Ok, Err, if◌then◌else◌}
use Rattle.sql_values.specs.declared.fault.ExprFault.{ExprFault}
use Rattle.sql_values.specs.declared.fault.ExprFault.TheVariants.{Refused, NoMemory}

-- what is given, or a code
abbrev pub Coded : Type 0 → Type 0
Coded A = Result A (List ℕ)

abbrev pub behind : {A B : Type 0} → Coded A → (A → Coded B) → Coded B
behind (Ok a) next = next a
behind (Err code) next = Err code

abbrev pub made : {A B : Type 0} → (A → B) → Coded A → Coded B
made make given = behind given (λ a. Ok (make a))

-- all that is given, or the first code
abbrev pub all_of : {A : Type 0} → List (Coded A) → Coded (List A)
all_of [] = Ok []
all_of (given ∷ more) = behind given (λ a. made (λ others. a ∷ others) (all_of more))

abbrev pub with_some : {A : Type 0} → Option A → List A → List A
with_some None others = others
with_some (Some a) others = a ∷ others

abbrev pub those_there : {A : Type 0} → List (Option A) → List A
those_there [] = []
those_there (a ∷ more) = with_some a (those_there more)

-- each in turn: what those give that give something, or the first code
abbrev pub walked : {A B : Type 0} → (A → Coded (Option B)) → List A → Coded (List B)
walked step xs = made those_there (all_of (map step xs))

-- what the code answers is this; want of memory alone is free
abbrev pub GivesAs : {A B : Type 0} → (A → B) → Result A ExprFault → Coded B → Type 0
GivesAs view (Ok a) told = told ≡ Ok (view a)
GivesAs view (Err (Refused code)) told = told ≡ Err code.bytes
GivesAs view (Err NoMemory) told = Unit {0}

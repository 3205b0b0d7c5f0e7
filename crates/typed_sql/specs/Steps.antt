-- A check goes through a statement from left to right. What is known of the parameters goes from one step to
-- the next, and the first fault decides.
use Rattle.std.specs.Prelude.{◌++◌, ◌-◌, length, slice_get, replicate, set, ◌≡◌, ℕ, zero, suc, List, [], ◌∷◌, Option, Some, None, Result, Ok, Err, map}
use Rattle.pg_values.specs.declared.col_type.ColType.{ColType}
use Rattle.typed_sql.specs.declared.fault.CheckFault.{CheckFault}
use Rattle.typed_sql.specs.declared.fault.CheckFault.TheVariants.{Refused, NoMemory}

-- what is known of the parameters: for each number, from 1, its type, if the list of types or a use gave it one
abbrev pub Known : Type 0
Known = List (Option ColType)

-- a fault: its code, and the name that the code's text has a place for
pub record Fault : Type 0 where
  pub code : List ℕ
  pub name : List ℕ

abbrev pub fault : List ℕ → List ℕ → Fault
fault code name = record { code = code; name = name }

-- what a step gives and what is known behind it, or the fault
abbrev pub Answer : Type 0 → Type 0
Answer A = Result (A × Known) Fault

-- a step: which answer it has where so much is known
abbrev pub Step : Type 0 → Type 1
Step A = Known → Answer A → Type 0

-- it gives this
abbrev pub Gives : {A : Type 0} → A → Step A
Gives a known answer = answer ≡ Ok (a, known)

-- it has this fault
abbrev pub Fails : {A : Type 0} → Fault → Step A
Fails e known answer = answer ≡ Err e

abbrev pub Behind : {A B : Type 0} → (A → Step B) → Answer A → Answer B → Type 0
Behind next (Ok x) answer = next x.0 x.1 answer
Behind next (Err e) answer = answer ≡ Err e

-- one step, and another behind what it gives
abbrev pub Then : {A B : Type 0} → Step A → (A → Step B) → Step B
Then step next known answer = (first : Answer _) × step known first × Behind next first answer

-- a step, and what is made of what it gives
abbrev pub Made : {A B : Type 0} → (A → B) → Step A → Step B
Made make step = Then step (λ a. Gives (make a))

-- A step for each, from left to right. What one gave decides how the next is taken: `next` says what it leaves
-- behind.
abbrev pub Walk : {S A B : Type 0} → (S → A → Step B) → (S → B → S) → S → List A → Step (List B)
Walk step next s [] = Gives []
Walk step next s (x ∷ xs) = Then (step s x) (λ y. Made (λ ys. y ∷ ys) (Walk step next (next s y) xs))

-- what a walk has left behind with what it gave
abbrev pub reached : {S B : Type 0} → (S → B → S) → S → List B → S
reached next s [] = s
reached next s (y ∷ ys) = reached next (next s y) ys

-- a step for each, whatever the others gave
abbrev pub Each : {A B : Type 0} → (A → Step B) → List A → Step (List B)
Each step xs = Walk {S = Unit {0}} (λ s x. step x) (λ s y. s) tt xs

-- a step for what may be left out
abbrev pub Maybe : {A B : Type 0} → (A → Step B) → Option A → Step (Option B)
Maybe step None = Gives None
Maybe step (Some x) = Made Some (step x)

-- what a look-up found
abbrev pub Told : {A : Type 0} → Result A Fault → Step A
Told (Ok a) = Gives a
Told (Err e) = Fails e

-- what a function answered, beside what is known behind it: want of memory alone is free
abbrev pub Answers : {A B : Type 0} → (A → B) → Result A CheckFault → Known → (Answer B → Type 0) → Type 0
Answers view (Ok a) known Is = Is (Ok (view a, known))
Answers view (Err (Refused code name)) known Is = Is (Err (fault code.bytes name))
Answers view (Err NoMemory) known Is = Unit {0}

-- what a function makes of what another answered: a fault stays as it is, and memory may be refused
abbrev pub Becomes : {A B : Type 0} → (A → B) → Result A CheckFault → Result B CheckFault → Type 0
Becomes make (Ok a) (Ok b) = b ≡ make a
Becomes make (Ok a) (Err (Refused code name)) = ⊥
Becomes make (Ok a) (Err NoMemory) = Unit {0}
Becomes make (Err e) made = made ≡ Err e

abbrev pub or_none : {A : Type 0} → Option (Option A) → Option A
or_none None = None
or_none (Some x) = x

-- the type of a parameter, from 1, if it is known
abbrev pub known_kind : ℕ → Known → Option ColType
known_kind zero known = None
known_kind (suc at) known = or_none (slice_get known at)

-- with a type for one parameter more
abbrev pub with_kind : ℕ → ColType → Known → Known
with_kind zero kind known = known
with_kind (suc at) kind known = set (known ++ replicate (suc at - length known) None) at (Some kind)

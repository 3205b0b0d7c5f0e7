-- The name that a step of a check tells, where it has a fault.
use Rattle.std.proofs.Common.{◌≡◌, ◌≢◌, ℕ, zero, suc, List, [], ◌∷◌, length, refl, sym, subst}
use Rattle.std.specs.Prelude.{◌&&◌, nat_le, Bool as Truth, true, false, Option, Some, None, Result, Ok, Err, IfSome}
use Rattle.std.specs.List.{All, AllByRecursion}
use Rattle.std.proofs.lemmas.Bool.{false≢true, leb-true}
use Rattle.std.proofs.lemmas.List.Elements.{All-nil, All-cons}
use Rattle.typed_sql.specs.Steps.{Known, Fault, Answer, Step, Behind, Gives, Fails, Then, Made, Walk, Each, Maybe, Told}
use Rattle.statement_laws.specs.Told.{IsTold}

-- ---- names that are known

abbrev is_some_byte : ℕ → Truth
is_some_byte zero = false
is_some_byte (suc b) = true

abbrev has_no_zero : List ℕ → Truth
has_no_zero [] = true
has_no_zero (b ∷ text) = is_some_byte b && has_no_zero text

abbrev pub is_told : List ℕ → Truth
is_told name = nat_le (length name) 63 && has_no_zero name

both_of : (a b : Truth) → (a && b) ≡ true → (a ≡ true) × (b ≡ true)
both_of true b is = (refl, is)
both_of false b is = absurd (false≢true is)

some_byte : (b : ℕ) → is_some_byte b ≡ true → b ≡ 0 → ⊥
some_byte b is none = false≢true (subst (λ (n : ℕ). is_some_byte n ≡ true) none is)

no_zero : (text : List ℕ) → has_no_zero text ≡ true → All (λ b. b ≢ 0) text
no_zero [] is = All-nil (λ b. b ≢ 0)
no_zero (b ∷ text) is =
    let both = both_of (is_some_byte b) (has_no_zero text) is in
    All-cons (λ b. b ≢ 0) b text (some_byte b both.0) (no_zero text both.1)

pub tested : (name : List ℕ) → is_told name ≡ true → IsTold name
tested name is =
    let both = both_of (nat_le (length name) 63) (has_no_zero name) is in
    (leb-true (length name) 63 both.0, no_zero name both.1)

-- no name at all
pub none_told : IsTold []
none_told = tested [] refl

-- ---- steps

abbrev pub Blames : {A : Type 0} → Answer A → Type 0
Blames (Ok x) = Unit {0}
Blames (Err e) = IsTold e.name

abbrev pub Tells : {A : Type 0} → Step A → Type 0
Tells {A} step = (known : Known) (answer : Answer A) → step known answer → Blames answer

-- a fault that was found tells such a name
abbrev pub Found : {A : Type 0} → Result A Fault → Type 0
Found (Ok a) = Unit {0}
Found (Err e) = IsTold e.name

pub gives : {A : Type 0} (a : A) → Tells (Gives a)
gives a known answer is = subst Blames (sym is) tt

pub fails : {A : Type 0} (e : Fault) → IsTold e.name → Tells {A = A} (Fails e)
fails e short known answer is = subst Blames (sym is) short

pub told : {A : Type 0} (found : Result A Fault) → Found found → Tells (Told found)
told (Ok a) short = gives a
told (Err e) short = fails e short

module _ {A B : Type 0} (step : Step A) (next : A → Step B) where
  either : Tells step → ((a : A) → Tells (next a)) → (known : Known) (first : Answer A) (answer : Answer B) → step known first → Behind next first answer → Blames answer
  either tells goes known (Ok x) answer took on = goes x.0 x.1 answer on
  either tells goes known (Err e) answer took on = subst Blames (sym on) (tells known (Err e) took)

  pub goes_on : Tells step → ((a : A) → Tells (next a)) → Tells (Then step next)
  goes_on tells goes known answer took = either tells goes known took.0 answer took.1 took.2

pub made : {A B : Type 0} (make : A → B) (step : Step A) → Tells step → Tells (Made make step)
made make step tells = goes_on step (λ a. Gives (make a)) tells (λ a. gives (make a))

pub walk : {S A B : Type 0} (step : S → A → Step B) (next : S → B → S) (xs : List A) → AllByRecursion (λ x. (s : S) → Tells (step s x)) xs → (s : S) → Tells (Walk step next s xs)
walk step next [] each s = gives []
walk step next (x ∷ xs) each s =
    goes_on (step s x) (λ y. Made (λ ys. y ∷ ys) (Walk step next (next s y) xs)) (each.0 s) (λ y. made (λ ys. y ∷ ys) (Walk step next (next s y) xs) (walk step next xs each.1 (next s y)))

-- what follows for each
pub every : {A : Type 0} (Is Has : A → Type 0) → ((a : A) → Is a → Has a) → (xs : List A) → AllByRecursion Is xs → AllByRecursion Has xs
every Is Has so [] all = tt
every Is Has so (x ∷ xs) all = (so x all.0, every Is Has so xs all.1)

pub each_step : {A B : Type 0} (step : A → Step B) (xs : List A) → AllByRecursion (λ x. Tells (step x)) xs → Tells (Each step xs)
each_step {A = A} step xs each =
    walk {S = Unit {0}} (λ s x. step x) (λ s y. s) xs (every (λ x. Tells (step x)) (λ x. (s : Unit {0}) → Tells (step x)) (λ x tells s. tells) xs each) tt

pub maybe : {A B : Type 0} (step : A → Step B) (o : Option A) → IfSome o (λ a. Tells (step a)) → Tells (Maybe step o)
maybe step None tells = gives None
maybe step (Some x) tells = made Some (step x) tells

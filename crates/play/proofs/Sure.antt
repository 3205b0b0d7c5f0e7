-- What is so of what a step of a check gives.
use Rattle.std.proofs.Common.{sym, subst}
use Rattle.std.specs.Prelude.{Result, Ok, Err}
use Rattle.typed_sql.specs.Steps.{Known, Fault, Answer, Step, Behind, Gives, Fails, Then, Made, Told}

-- of what was given
abbrev pub Holds : {A : Type 0} → (A → Type 0) → Answer A → Type 0
Holds Is (Ok x) = Is x.0
Holds Is (Err e) = Unit {0}

abbrev pub Sure : {A : Type 0} → (A → Type 0) → Step A → Type 0
Sure {A} Is step = (known : Known) (answer : Answer A) → step known answer → Holds Is answer

-- of what was found
abbrev pub FoundIs : {A : Type 0} → (A → Type 0) → Result A Fault → Type 0
FoundIs Is (Ok a) = Is a
FoundIs Is (Err e) = Unit {0}

pub gives : {A : Type 0} (Is : A → Type 0) (a : A) → Is a → Sure Is (Gives a)
gives Is a is known answer same = subst (Holds Is) (sym same) is

fails : {A : Type 0} (Is : A → Type 0) (e : Fault) → Sure {A = A} Is (Fails e)
fails Is e known answer same = subst (Holds Is) (sym same) tt

pub told : {A : Type 0} (Is : A → Type 0) (found : Result A Fault) → FoundIs Is found → Sure Is (Told found)
told Is (Ok a) is = gives Is a is
told Is (Err e) is = fails Is e

any : {A : Type 0} (Is : A → Type 0) → ((a : A) → Is a) → (answer : Answer A) → Holds Is answer
any Is is (Ok x) = is x.0
any Is is (Err e) = tt

-- what is so of all
pub always : {A : Type 0} (Is : A → Type 0) (step : Step A) → ((a : A) → Is a) → Sure Is step
always Is step is known answer took = any Is is answer

module _ {A B : Type 0} (Is : A → Type 0) (Has : B → Type 0) (step : Step A) (next : A → Step B) where
  either : Sure Is step → ((a : A) → Is a → Sure Has (next a)) → (known : Known) (first : Answer A) (answer : Answer B) → step known first → Behind next first answer → Holds Has answer
  either sure goes known (Ok x) answer took on = goes x.0 (sure known (Ok x) took) x.1 answer on
  either sure goes known (Err e) answer took on = subst (Holds Has) (sym on) tt

  pub goes_on : Sure Is step → ((a : A) → Is a → Sure Has (next a)) → Sure Has (Then step next)
  goes_on sure goes known answer took = either sure goes known took.0 answer took.1 took.2

pub made : {A B : Type 0} (Is : A → Type 0) (Has : B → Type 0) (make : A → B) (step : Step A) → Sure Is step → ((a : A) → Is a → Has (make a)) → Sure Has (Made make step)
made Is Has make step sure makes = goes_on Is Has step (λ a. Gives (make a)) sure (λ a is. gives Has (make a) (makes a is))

-- a step whatever it gives, and then another
pub behind : {A B : Type 0} (Has : B → Type 0) (step : Step A) (next : A → Step B) → ((a : A) → Sure Has (next a)) → Sure Has (Then step next)
behind Has step next goes = goes_on (λ a. Unit {0}) Has step next (always (λ a. Unit {0}) step (λ a. tt)) (λ a is. goes a)

pub made_of : {A B : Type 0} (Has : B → Type 0) (make : A → B) (step : Step A) → ((a : A) → Has (make a)) → Sure Has (Made make step)
made_of Has make step makes = made (λ a. Unit {0}) Has make step (always (λ a. Unit {0}) step (λ a. tt)) (λ a is. makes a)

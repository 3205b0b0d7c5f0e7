-- What holds of all that a step gives, whatever more becomes known behind it.
use Rattle.std.proofs.Common.{◌≡◌, suc, List, [], ◌∷◌, length, refl, ap, sym, subst}
use Rattle.std.specs.Prelude.{Bool as Truth, true, false, Option, Some, None, Result, Ok, Err}
use Rattle.typed_sql.specs.Steps.{Known, Fault, Answer, Step, Gives, Fails, Behind, Then, Made, Walk, Each, Maybe, Told}
use Rattle.statement_laws.proofs.KnownTypes.{Extends, stays, further}

-- what a value is with what is known at the end
abbrev pub Meant : Type 0 → Type 1
Meant A = Known → A → Type 0

-- it is so with all that may be known at the end
abbrev pub Holds : {A : Type 0} → Meant A → Known → Answer A → Type 0
Holds Is known (Ok x) = Extends known x.1 × ((final : Known) → Extends x.1 final → Is final x.0)
Holds Is known (Err e) = Unit {0}

abbrev pub Keeps : {A : Type 0} → Meant A → Step A → Type 0
Keeps {A} Is step = (known : Known) (answer : Answer A) → step known answer → Holds Is known answer

pub gives : {A : Type 0} (Is : Meant A) (a : A) → ((final : Known) → Is final a) → Keeps Is (Gives a)
gives Is a all known answer is = subst (Holds Is known) (sym is) (stays known, λ final more. all final)

pub fails : {A : Type 0} (Is : Meant A) (e : Fault) → Keeps Is (Fails e)
fails Is e known answer is = subst (Holds Is known) (sym is) tt

module _ {A B : Type 0} (Is : Meant A) (Becomes : Meant B) (step : Step A) (next : A → Step B) where
  behind : (known : Known) (x : A × Known) (answer : Answer B) → Holds Is known (Ok x) → Holds (λ final b. Is final x.0 → Becomes final b) x.1 answer
      → Holds Becomes known answer
  behind known x (Ok y) first second =
      (further known x.1 y.1 first.0 second.0, λ final more. second.1 final more (first.1 final (further x.1 y.1 final second.0 more)))
  behind known x (Err e) first second = tt

  either : Keeps Is step → ((a : A) → Keeps (λ final b. Is final a → Becomes final b) (next a)) → (known : Known) (first : Answer A) (answer : Answer B)
      → step known first → Behind next first answer → Holds Becomes known answer
  either keeps goes known (Ok x) answer took on = behind known x answer (keeps known (Ok x) took) (goes x.0 x.1 answer on)
  either keeps goes known (Err e) answer took on = subst (Holds Becomes known) (sym on) tt

  -- one step, and another behind what it gives
  pub followed : Keeps Is step → ((a : A) → Keeps (λ final b. Is final a → Becomes final b) (next a)) → Keeps Becomes (Then step next)
  followed keeps goes known answer took = either keeps goes known took.0 answer took.1 took.2

pub made : {A B : Type 0} (Is : Meant A) (Becomes : Meant B) (make : A → B) (step : Step A) → Keeps Is step
    → ((a : A) (final : Known) → Is final a → Becomes final (make a)) → Keeps Becomes (Made make step)
made Is Becomes make step keeps makes =
    followed Is Becomes step (λ a. Gives (make a)) keeps (λ a. gives (λ final b. Is final a → Becomes final b) (make a) (λ final is. makes a final is))

-- what follows from it
pub along : {A : Type 0} (Is Becomes : Meant A) (step : Step A) → Keeps Is step → ((a : A) (final : Known) → Is final a → Becomes final a) → Keeps Becomes step
along {A} Is Becomes step keeps makes known answer took = turned answer (keeps known answer took)
  where
    turned : (answer : Answer A) → Holds Is known answer → Holds Becomes known answer
    turned (Ok x) holds = (holds.0, λ final more. makes x.0 final (holds.1 final more))
    turned (Err e) holds = tt

-- of each
abbrev pub All : {A : Type 0} → (A → Type 0) → List A → Type 0
All Is [] = Unit {0}
All Is (x ∷ xs) = Is x × All Is xs

module _ {S A B : Type 0} (Is : Meant B) (step : S → A → Step B) (next : S → B → S) where
  -- a walk along a list, each step of which keeps it, gives as many as there are
  pub walk_long : (xs : List A) → All (λ x. (s : S) → Keeps Is (step s x)) xs → (s : S) → Keeps (λ final ys. All (Is final) ys × (length ys ≡ length xs)) (Walk step next s xs)
  walk_long [] each s = gives (λ final ys. All (Is final) ys × (length ys ≡ 0)) [] (λ final. (tt, refl))
  walk_long (x ∷ xs) each s =
      followed Is (λ final ys. All (Is final) ys × (length ys ≡ suc (length xs))) (step s x) (λ y. Made (λ ys. y ∷ ys) (Walk step next (next s y) xs)) (each.0 s)
      (λ y. made (λ final ys. All (Is final) ys × (length ys ≡ length xs)) (λ final ys. Is final y → All (Is final) ys × (length ys ≡ suc (length xs))) (λ ys. y ∷ ys) (Walk step next (next s y) xs)
      (walk_long xs each.1 (next s y)) (λ ys final all is. ((is, all.0), ap suc all.1)))

  pub walk : (xs : List A) → All (λ x. (s : S) → Keeps Is (step s x)) xs → (s : S) → Keeps (λ final ys. All (Is final) ys) (Walk step next s xs)
  walk xs each s = along (λ final ys. All (Is final) ys × (length ys ≡ length xs)) (λ final ys. All (Is final) ys) (Walk step next s xs) (walk_long xs each s) (λ ys final all. all.0)

pub each_long : {A B : Type 0} (Is : Meant B) (step : A → Step B) (xs : List A) → All (λ x. Keeps Is (step x)) xs
    → Keeps (λ final ys. All (Is final) ys × (length ys ≡ length xs)) (Each step xs)
each_long {A = A} Is step xs each = walk_long {S = Unit {0}} Is (λ s x. step x) (λ s y. s) xs (always xs each) tt
  where
    always : (xs : List A) → All (λ x. Keeps Is (step x)) xs → All (λ x. (s : Unit {0}) → Keeps Is (step x)) xs
    always [] each = tt
    always (x ∷ xs) each = (λ s. each.0, always xs each.1)

pub each_step : {A B : Type 0} (Is : Meant B) (step : A → Step B) (xs : List A) → All (λ x. Keeps Is (step x)) xs → Keeps (λ final ys. All (Is final) ys) (Each step xs)
each_step Is step xs each = along (λ final ys. All (Is final) ys × (length ys ≡ length xs)) (λ final ys. All (Is final) ys) (Each step xs) (each_long Is step xs each) (λ ys final all. all.0)

abbrev pub IfThere : {A : Type 0} → (A → Type 0) → Option A → Type 0
IfThere Is None = Unit {0}
IfThere Is (Some x) = Is x

pub maybe : {A B : Type 0} (Is : Meant B) (step : A → Step B) (o : Option A) → IfThere (λ x. Keeps Is (step x)) o → Keeps (λ final y. IfThere (Is final) y) (Maybe step o)
maybe Is step None keeps = gives (λ final y. IfThere (Is final) y) None (λ final. tt)
maybe Is step (Some x) keeps = made Is (λ final y. IfThere (Is final) y) Some (step x) keeps (λ b final is. is)

-- what a look-up found
pub told : {A : Type 0} (Is : Meant A) (found : Result A Fault) → ((a : A) → found ≡ Ok a → (final : Known) → Is final a) → Keeps Is (Told found)
told Is (Ok a) all = gives Is a (all a refl)
told Is (Err e) all = fails Is e

-- both of two
pub both : {A : Type 0} (Is Other : Meant A) (step : Step A) → Keeps Is step → Keeps Other step → Keeps (λ final a. Is final a × Other final a) step
both {A} Is Other step first second known answer took = joined answer (first known answer took) (second known answer took)
  where
    joined : (answer : Answer A) → Holds Is known answer → Holds Other known answer → Holds (λ final a. Is final a × Other final a) known answer
    joined (Ok x) holds more_holds = (holds.0, λ final more. (holds.1 final more, more_holds.1 final more))
    joined (Err e) holds more_holds = tt

-- nothing comes behind a fault
pub refused : {A B : Type 0} (Is : Meant B) (e : Fault) (next : A → Step B) → Keeps Is (Then (Told (Err e)) next)
refused {A} {B} Is e next known answer took = stopped took.0 took.1 took.2
  where
    is_ok : Answer A → Truth
    is_ok (Ok x) = true
    is_ok (Err e) = false

    stopped : (first : Answer A) → first ≡ Err e → Behind next first answer → Holds Is known answer
    stopped (Ok x) is on = absurd (let f : true ≡ false = ap is_ok is in cc)
    stopped (Err other) is on = subst (Holds Is known) (sym on) tt

-- what goes on
pub passed : {B : Type 0} (Is : Meant B) (step : Step B) → Keeps Is step → Keeps Is (Then (Told {A = Unit {0}} (Ok tt)) (λ free. step))
passed Is step keeps =
    followed (λ final free. Unit {0}) Is (Told {A = Unit {0}} (Ok tt)) (λ free. step) (gives {A = Unit {0}} (λ final free. Unit {0}) tt (λ final. tt))
    (λ free. along Is (λ final b. Unit {0} → Is final b) step keeps (λ b final is free. is))

-- what was found, and a step with it
pub then_told : {A B : Type 0} (Is : Meant B) (found : Result A Fault) (next : A → Step B) → ((a : A) → found ≡ Ok a → Keeps Is (next a)) → Keeps Is (Then (Told found) next)
then_told {A} {B} Is (Ok a) next keeps known answer took = keeps a refl known answer (subst (λ (first : Answer A). Behind next first answer) took.1 took.2)
then_told Is (Err e) next keeps known answer took = refused Is e next known answer took

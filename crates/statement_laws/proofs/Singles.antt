-- A step that has one answer, wherever it is taken from, and what keeps that.
use Rattle.std.proofs.Common.{◌≡◌, ◌∙◌, List, [], ◌∷◌, map, sym, subst}
use Rattle.std.specs.Prelude.{Option, Some, None, Result, Ok, Err}
use Rattle.std.specs.List.{AllByRecursion}
use Rattle.typed_sql.specs.Steps.{Known, Fault, Answer, Step, Gives, Behind, Then, Made, Walk, Each, Maybe, Told}

-- two answers of it, where as much is known, are one
abbrev pub Single : {A : Type 0} → Step A → Type 0
Single {A} step = (known : Known) (a b : Answer A) → step known a → step known b → a ≡ b

pub gives : {A : Type 0} (a : A) → Single (Gives a)
gives a known x y p q = p ∙ sym q

-- what a look-up found
pub told : {A : Type 0} (found : Result A Fault) → Single (Told found)
told (Ok a) known x y p q = p ∙ sym q
told (Err e) known x y p q = p ∙ sym q

module _ {A B : Type 0} (step : Step A) (next : A → Step B) where
  behind : ((a : A) → Single (next a)) → (first : Answer A) (a b : Answer B) → Behind next first a → Behind next first b → a ≡ b
  behind goes (Ok x) a b p q = goes x.0 x.1 a b p q
  behind goes (Err e) a b p q = p ∙ sym q

  -- one step, and another behind what it gives
  pub followed : Single step → ((a : A) → Single (next a)) → Single (Then step next)
  followed one goes known a b p q =
      behind goes p.0 a b p.2 (subst (λ (first : Answer A). Behind next first b) (sym (one known p.0 q.0 p.1 q.1)) q.2)

pub made : {A B : Type 0} (make : A → B) (step : Step A) → Single step → Single (Made make step)
made make step one = followed step (λ a. Gives (make a)) one (λ a. gives (make a))

module _ {S A B : Type 0} (step : S → A → Step B) (next : S → B → S) where
  -- a walk along a list, each step of which has one answer
  pub walk : (xs : List A) → AllByRecursion (λ x. (s : S) → Single (step s x)) xs → (s : S) → Single (Walk step next s xs)
  walk [] each s = gives {A = List B} []
  walk (x ∷ xs) each s =
      followed (step s x) (λ y. Made (λ ys. y ∷ ys) (Walk step next (next s y) xs)) (each.0 s)
      (λ y. made (λ ys. y ∷ ys) (Walk step next (next s y) xs) (walk xs each.1 (next s y)))

-- what holds of all holds of each
pub every : {A : Type 0} (P : A → Type 0) → ((a : A) → P a) → (xs : List A) → AllByRecursion P xs
every P all [] = tt
every P all (x ∷ xs) = (all x, every P all xs)

-- and of each that a list is made of
pub every_of : {X A : Type 0} (f : X → A) (P : A → Type 0) → ((x : X) → P (f x)) → (xs : List X) → AllByRecursion P (map f xs)
every_of f P all [] = tt
every_of f P all (x ∷ xs) = (all x, every_of f P all xs)

-- a step for each
pub for_each : {A B : Type 0} (step : A → Step B) (xs : List A) → AllByRecursion (λ x. Single (step x)) xs → Single (Each step xs)
for_each {A = A} step xs each = walk {S = Unit {0}} (λ s x. step x) (λ s y. s) xs (always xs each) tt
  where
    always : (xs : List A) → AllByRecursion (λ x. Single (step x)) xs → AllByRecursion (λ x. (s : Unit {0}) → Single (step x)) xs
    always [] each = tt
    always (x ∷ xs) each = (λ s. each.0, always xs each.1)

-- a step for what may be left out
pub maybe : {A B : Type 0} (step : A → Step B) → ((x : A) → Single (step x)) → (o : Option A) → Single (Maybe step o)
maybe {B = B} step one None = gives {A = Option B} None
maybe step one (Some x) = made Some (step x) (one x)

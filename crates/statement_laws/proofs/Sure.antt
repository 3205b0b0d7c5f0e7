-- Steps of a check whose every answer gives something of which this holds, and makes nothing more known.
use Rattle.std.proofs.Common.{◌≡◌, ◌∙◌, List, [], ◌∷◌, map, refl, ap, sym, subst}
use Rattle.std.specs.Prelude.{Option, Some, None, Result, Ok}
use Rattle.std.specs.Option.{option_map}
use Rattle.typed_sql.specs.Steps.{Known, Fault, Answer, Step, Gives, Behind, Then, Made, Walk, Each, Maybe, Told}

abbrev pub Gave : {A : Type 0} → (A → Type 0) → Known → Answer A → Type 0
Gave {A} P known answer = (x : A) × (answer ≡ Ok (x, known)) × P x

abbrev pub Sure : {A : Type 0} → (A → Type 0) → Known → Step A → Type 0
Sure {A} P known step = (answer : Answer A) → step known answer → Gave P known answer

pub gives : {A : Type 0} (P : A → Type 0) (known : Known) (a : A) → P a → Sure P known (Gives a)
gives P known a holds answer is = (a, is, holds)

module _ {A B : Type 0} (P : A → Type 0) (Q : B → Type 0) (known : Known) (step : Step A) where
  -- one step, and another behind what it gives
  pub followed : (next : A → Step B) → Sure P known step → ((a : A) → P a → Sure Q known (next a)) → Sure Q known (Then step next)
  followed next first on answer took =
      let given = first took.0 took.1 in
      on given.0 given.2 answer (subst (λ (f : Answer A). Behind next f answer) given.1 took.2)

  -- what is made of what a step gives
  pub made : (make : A → B) → Sure P known step → ((a : A) → P a → Q (make a)) → Sure Q known (Made make step)
  made make first on = followed (λ a. Gives (make a)) first (λ a holds. gives Q known (make a) (on a holds))

-- what follows from it
pub along : {A : Type 0} (P Q : A → Type 0) (known : Known) (step : Step A) → Sure P known step → ((a : A) → P a → Q a) → Sure Q known step
along P Q known step first on answer took =
    let given = first answer took in
    (given.0, given.1, on given.0 given.2)

-- what was found
pub told : {A : Type 0} (P : A → Type 0) (known : Known) (found : Result A Fault) (a : A) → found ≡ Ok a → P a → Sure P known (Told found)
told {A} P known found a is holds =
    subst (λ (r : Result A Fault). Sure P known (Told r)) (sym is) (gives P known a holds)

pub told_then : {A B : Type 0} (Q : B → Type 0) (known : Known) (found : Result A Fault) (a : A) (next : A → Step B) → found ≡ Ok a → Sure Q known (next a)
    → Sure Q known (Then (Told found) next)
told_then {A} Q known found a next is on =
    followed (λ (x : A). x ≡ a) Q known (Told found) next (told (λ (x : A). x ≡ a) known found a is refl)
    (λ x same. subst (λ (y : A). Sure Q known (next y)) (sym same) on)

-- ---- lists

-- what each of one list and each of another are to one another
abbrev pub Pairs : {A B : Type 0} → (A → B → Type 0) → List A → List B → Type 0
Pairs R [] [] = Unit {0}
Pairs R [] (y ∷ ys) = ⊥
Pairs R (x ∷ xs) [] = ⊥
Pairs R (x ∷ xs) (y ∷ ys) = R x y × Pairs R xs ys

-- of each
abbrev pub All : {A : Type 0} → (A → Type 0) → List A → Type 0
All P [] = Unit {0}
All P (x ∷ xs) = P x × All P xs

module _ {S C A B : Type 0} (Good : S → List A → Type 0) (R : A → B → Type 0) (f : A → C) (step : S → C → Step B) (next : S → B → S) (known : Known)
    (one : (s : S) (a : A) (lefts : List A) → Good s (a ∷ lefts) → Sure (λ y. R a y × Good (next s y) lefts) known (step s (f a))) where
  -- a walk, each step of which is sure with what the others left
  pub walk : (lefts : List A) (s : S) → Good s lefts → Sure (λ ys. Pairs R lefts ys) known (Walk step next s (map f lefts))
  walk [] s good = gives (λ ys. Pairs R [] ys) known [] tt
  walk (a ∷ lefts) s good =
      followed (λ y. R a y × Good (next s y) lefts) (λ ys. Pairs R (a ∷ lefts) ys) known (step s (f a))
      (λ y. Made (λ ys. y ∷ ys) (Walk step next (next s y) (map f lefts))) (one s a lefts good)
      (λ y is. made (λ ys. Pairs R lefts ys) (λ ys. Pairs R (a ∷ lefts) ys) known (Walk step next (next s y) (map f lefts)) (λ ys. y ∷ ys)
      (walk lefts (next s y) is.1) (λ ys all. (is.0, all)))

module _ {C A B : Type 0} (R : A → B → Type 0) (f : A → C) (step : C → Step B) (known : Known) where
  pub each : (lefts : List A) → All (λ a. Sure (R a) known (step (f a))) lefts → Sure (λ ys. Pairs R lefts ys) known (Each step (map f lefts))
  each lefts all =
      walk {S = Unit {0}} (λ s bs. All (λ a. Sure (R a) known (step (f a))) bs) R f (λ s x. step x) (λ s y. s) known
      (λ s a bs good answer took. let given = good.0 answer took in (given.0, given.1, (given.2, good.1))) lefts tt all

  -- what may be left out
  abbrev pub Both : Option A → Option B → Type 0
  Both None None = Unit {0}
  Both None (Some y) = ⊥
  Both (Some x) None = ⊥
  Both (Some x) (Some y) = R x y

  abbrev pub IfThere : Option A → Type 0
  IfThere None = Unit {0}
  IfThere (Some a) = Sure (R a) known (step (f a))

  pub maybe : (o : Option A) → IfThere o → Sure (λ y. Both o y) known (Maybe step (option_map f o))
  maybe None there = gives (λ y. Both None y) known None tt
  maybe (Some a) there = made (R a) (λ y. Both (Some a) y) known (step (f a)) Some there (λ y is. is)

-- ---- from pairs to lists

pub pairs_map : {A B C : Type 0} (R : A → B → Type 0) (g : A → C) (h : B → C) → ((a : A) (b : B) → R a b → h b ≡ g a) → (lefts : List A) (bs : List B) → Pairs R lefts bs
    → map h bs ≡ map g lefts
pairs_map R g h same [] [] all = refl
pairs_map R g h same [] (b ∷ bs) all = absurd all
pairs_map R g h same (a ∷ lefts) [] all = absurd all
pairs_map {C = C} R g h same (a ∷ lefts) (b ∷ bs) all =
    ap (λ (c : C). c ∷ map h bs) (same a b all.0) ∙ ap (λ (cs : List C). g a ∷ cs) (pairs_map R g h same lefts bs all.1)

pub pairs_all : {A B : Type 0} (R : A → B → Type 0) (P : B → Type 0) → ((a : A) (b : B) → R a b → P b) → (lefts : List A) (bs : List B) → Pairs R lefts bs → All P bs
pairs_all R P holds [] [] all = tt
pairs_all R P holds [] (b ∷ bs) all = absurd all
pairs_all R P holds (a ∷ lefts) [] all = absurd all
pairs_all R P holds (a ∷ lefts) (b ∷ bs) all = (holds a b all.0, pairs_all R P holds lefts bs all.1)

pub all_map : {A : Type 0} (P Q : A → Type 0) → ((a : A) → P a → Q a) → (lefts : List A) → All P lefts → All Q lefts
all_map P Q on [] all = tt
all_map P Q on (a ∷ lefts) all = (on a all.0, all_map P Q on lefts all.1)

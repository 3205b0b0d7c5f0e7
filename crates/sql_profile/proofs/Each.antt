-- What holds of each item of a list.
use Rattle.std.proofs.Common.{List, [], ◌∷◌, map}

-- of each of them
abbrev pub Each : {X : Type 0} → (X → Type 0) → List X → Type 0
Each P [] = Unit {0}
Each P (x ∷ xs) = P x × Each P xs

pub each_map : {X : Type 0} {P Q : X → Type 0} → ((x : X) → P x → Q x) → (xs : List X) → Each P xs → Each Q xs
each_map f [] each = tt
each_map f (x ∷ xs) each = (f x each.0, each_map f xs each.1)

-- what is made of each
pub each_of : {X E : Type 0} (f : X → E) (P : E → Type 0) → ((x : X) → P (f x)) → (xs : List X) → Each P (map f xs)
each_of f P all [] = tt
each_of f P all (x ∷ xs) = (all x, each_of f P all xs)

-- what holds of all
pub each_all : {X : Type 0} (P : X → Type 0) → ((x : X) → P x) → (xs : List X) → Each P xs
each_all P all [] = tt
each_all P all (x ∷ xs) = (all x, each_all P all xs)

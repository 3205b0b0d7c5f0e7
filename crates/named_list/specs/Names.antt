-- Where a name stands in a list of things with names.
use Rattle.std.specs.Prelude.{◌≡◌, ℕ, suc, List, [], ◌∷◌, Option, Some, None, String, bytes_eq, if◌then◌else◌, option_map}
use Rattle.indexmap.specs.IndexMap.{IndexMap, get_by_text}

-- the first thing of that name among these, with its number, where the first of these has this number
abbrev pub found_from : {X : Type 0} → (X → List ℕ) → ℕ → List ℕ → List X → Option (ℕ × X)
found_from name_of number name [] = None
found_from name_of number name (x ∷ xs) =
    if bytes_eq (name_of x) name then Some (number, x) else found_from name_of (suc number) name xs

-- at each name stands the number of the first thing that has it, and at no other name a number
abbrev pub AreNumbers : {X Y S : Type 0} → (X → List ℕ) → List X → IndexMap (String Y) ℕ S → Type 0
AreNumbers name_of xs numbers =
    (name : List ℕ) → get_by_text numbers name ≡ option_map (λ found. found.0) (found_from name_of 0 name xs)

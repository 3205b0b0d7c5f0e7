-- The names that a start message gives its user, as they are found one after another.
use Rattle.std.proofs.Common.{ℕ, List, ◌∷◌, Option, Some, None}

abbrev pub with_found : Option (List ℕ) → List (List ℕ) → List (List ℕ)
with_found None rest = rest
with_found (Some name) rest = name ∷ rest

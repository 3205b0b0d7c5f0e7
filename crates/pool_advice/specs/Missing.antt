-- Which parameters are missing of a text.
use Rattle.std.specs.Prelude.{◌≡◌, ℕ, List, [], ◌∷◌, ◌++◌}
use Rattle.pool_config.specs.Configuration.{Lacks}

-- the text with a line more, which begins with that name
pub record IsGiven (old name new : List ℕ) : Type 0 where
  pub value : List ℕ
  pub is : new ≡ old ++ (10 ∷ (name ++ value))

-- the reader misses the first name, and the others once that one is given
abbrev pub AreMissing : List ℕ → List (List ℕ) → Type 0
AreMissing text [] = Unit {0}
AreMissing text (name ∷ more) = Lacks text name × ((new : List ℕ) × IsGiven text name new × AreMissing new more)

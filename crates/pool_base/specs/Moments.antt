-- The moments of a clock that is set by hand.
use Rattle.std.specs.Prelude.{ℕ, zero, suc, ℤ, List, [], ◌∷◌, ◌++◌, slice_index_or}

-- the first so many of: the moments, and then the last one again and again
abbrev pub given_of : List ℤ → ℤ → ℕ → List ℤ
given_of moments last zero = []
given_of moments last (suc count) = given_of moments last count ++ slice_index_or moments count last ∷ []

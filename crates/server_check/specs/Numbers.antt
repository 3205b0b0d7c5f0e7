-- The greatest of some numbers.
use Rattle.std.specs.Prelude.{ℕ, nat_lt, if◌then◌else◌, List, [], ◌∷◌, Option, Some, None}

abbrev pub greater : ℕ → Option ℕ → ℕ
greater x None = x
greater x (Some y) = if nat_lt y x then x else y

abbrev pub greatest : List ℕ → Option ℕ
greatest [] = None
greatest (x ∷ xs) = Some (greater x (greatest xs))

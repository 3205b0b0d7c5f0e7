-- Lists of one value.
use Rattle.std.specs.Prelude.{◌≡◌, List, [], ◌∷◌}

abbrev pub AllAre : {A : Type 0} → A → List A → Type 0
AllAre x [] = Unit {0}
AllAre x (y ∷ ys) = (y ≡ x) × AllAre x ys

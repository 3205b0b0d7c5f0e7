-- What a writer that lacked memory leaves.
use Rattle.std.specs.Prelude.{◌≡◌, ℕ, List, length, take}

-- new begins with old
abbrev pub Keeps : List ℕ → List ℕ → Type 0
Keeps old new = take (length old) new ≡ old

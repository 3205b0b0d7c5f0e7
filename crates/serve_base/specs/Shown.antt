-- How a client's words stand in the log.
use Rattle.std.specs.Prelude.{◌&&◌, ℕ, zero, suc, List, [], ◌∷◌, nat_le, if◌then◌else◌}

-- a printable byte of ASCII that is no space, or `?` (63)
abbrev pub shown_byte : ℕ → ℕ
shown_byte b = if nat_le 33 b && nat_le b 126 then b else 63

-- the first so many bytes
abbrev pub shown_of : ℕ → List ℕ → List ℕ
shown_of zero bytes = []
shown_of (suc most) [] = []
shown_of (suc most) (b ∷ rest) = shown_byte b ∷ shown_of most rest

-- What is written of a play.
use Rattle.std.specs.Prelude.{◌≡◌, ℕ, List, [], ◌∷◌, ◌++◌, Option}
use Rattle.pool_base.specs.Outside.{Appends}
use Rattle.pgproto.specs.Line.{Line}
use Rattle.pgproto.specs.Spelling.{echoed}

-- where it is told, what was taken begins with what had been taken before
abbrev pub Grew : Option (List ℕ) → Option (List ℕ) → Type 0
Grew old new = (bytes : List ℕ) × Appends old new bytes

-- the echo of a line, with its end
abbrev pub echo_of : Line → List ℕ
echo_of line = echoed line ++ 10 ∷ []

-- the part of a line was written: its echo, and behind it what is told
abbrev pub IsPart : Line → Option (List ℕ) → Option (List ℕ) → Type 0
IsPart line old new = (told : List ℕ) × Appends old new (echo_of line ++ told)

-- the parts of some lines were written, one behind another
abbrev pub AreParts : List Line → Option (List ℕ) → Option (List ℕ) → Type 0
AreParts [] old new = new ≡ old
AreParts (line ∷ lines) old new = (mid : Option (List ℕ)) × IsPart line old mid × AreParts lines mid new

-- a script was written: the parts of its lines, and behind them what is told at its end
abbrev pub ArePlayed : List Line → Option (List ℕ) → Option (List ℕ) → Type 0
ArePlayed lines old new = (mid : Option (List ℕ)) × AreParts lines old mid × Grew mid new

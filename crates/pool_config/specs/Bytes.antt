-- Classes of bytes, the run of a class at the front of a text, and the lines of a text.
use Rattle.std.specs.Prelude.{◌≡◌, ◌==◌, ◌||◌, ℕ, Bool, true, not, List, [], Option, Some, None, ◌∷◌, if◌then◌else◌}
use Rattle.pool_config.specs.declared.line.Class.{Class}
use Rattle.pool_config.specs.declared.line.Class.TheVariants.{Blank, Name, Word, Inner, InLine}

-- space, tab, carriage return
abbrev pub is_blank : ℕ → Bool
is_blank b = b == 32 || (b == 9 || b == 13)

-- blanks, the quote and `#`: where a word ends
abbrev pub ends_word : ℕ → Bool
ends_word b = is_blank b || (b == 39 || b == 35)

-- the byte is of the class: a blank; in a name, which ends at `=` too; in a word; between quotes;
-- in a line
abbrev pub has : Class → ℕ → Bool
has Blank b = is_blank b
has Name b = not (ends_word b || b == 61)
has Word b = not (ends_word b)
has Inner b = not (b == 39)
has InLine b = not (b == 10)

-- all bytes are of the class
abbrev pub AllOf : Class → List ℕ → Type 0
AllOf c [] = Unit {0}
AllOf c (b ∷ rest) = (has c b ≡ true) × AllOf c rest

-- the first bytes of the class
abbrev pub front : Class → List ℕ → List ℕ
front c [] = []
front c (b ∷ rest) = if has c b then b ∷ front c rest else []

-- what stands behind them
abbrev pub behind : Class → List ℕ → List ℕ
behind c [] = []
behind c (b ∷ rest) = if has c b then behind c rest else b ∷ rest

-- the byte in front of the first line
abbrev pub onto : ℕ → List (List ℕ) → List (List ℕ)
onto b [] = (b ∷ []) ∷ []
onto b (line ∷ rest) = (b ∷ line) ∷ rest

-- the lines of a text: what stands before, between and behind its line feeds
abbrev pub lines : List ℕ → List (List ℕ)
lines [] = [] ∷ []
lines (b ∷ rest) = if b == 10 then [] ∷ lines rest else onto b (lines rest)

-- the lines behind a line feed, where there is one
abbrev pub lines_behind : Option (List ℕ) → List (List ℕ)
lines_behind None = []
lines_behind (Some rest) = lines rest

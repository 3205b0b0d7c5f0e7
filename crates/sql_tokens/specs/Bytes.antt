-- Classes of bytes, what the first byte of a text tells, and the longest run of a class at its front.
use Rattle.std.specs.Prelude.{◌==◌, ◌||◌, ℕ, Bool, false, not, List, [], ◌∷◌, if◌then◌else◌}
use Rattle.std.specs.Char.{is_ascii_digit, is_ascii_alphabetic}
use Rattle.sql_tokens.specs.declared.mark.Mark.TheVariants as marks
use Rattle.sql_tokens.specs.declared.bytes.Class.{Class}
use Rattle.sql_tokens.specs.declared.bytes.Class.TheVariants.{Name, Digit, Strange, Line, But}
use Rattle.sql_tokens.specs.declared.bytes.Kind.{Kind}
use Rattle.sql_tokens.specs.declared.bytes.Kind.TheVariants as kinds

-- space, tab, line feed, carriage return
abbrev pub is_space : ℕ → Bool
is_space b = b == 32 || (b == 9 || (b == 10 || b == 13))

-- a letter of ASCII, or `_`
abbrev pub begins_name : ℕ → Bool
begins_name b = is_ascii_alphabetic b || b == 95

-- one of `: ~ ! @ # ^ & | ? [ ]`
abbrev pub is_strange : ℕ → Bool
is_strange b = b == 58 || (b == 126 || (b == 33 || (b == 64 || (b == 35 || (b == 94
    || (b == 38 || (b == 124 || (b == 63 || (b == 91 || b == 93)))))))))

-- the byte is of the class: in a name; a digit; in a run of marks that are strange to the grammar;
-- in a line; any byte but this one
abbrev pub has : Class → ℕ → Bool
has Name b = begins_name b || is_ascii_digit b
has Digit b = is_ascii_digit b
has Strange b = is_strange b
has Line b = not (b == 10 || (b == 13 || b == 0))
has (But q) b = not (b == q)

-- the longest front whose bytes are all of the class
abbrev pub front : Class → List ℕ → List ℕ
front c [] = []
front c (b ∷ bytes) = if has c b then b ∷ front c bytes else []

-- what stands behind it
abbrev pub behind : Class → List ℕ → List ℕ
behind c [] = []
behind c (b ∷ bytes) = if has c b then behind c bytes else b ∷ bytes

-- the bytes begin with this one
abbrev pub begins_with : ℕ → List ℕ → Bool
begins_with q [] = false
begins_with q (b ∷ bytes) = b == q

-- the bytes begin with a digit
abbrev pub begins_digit : List ℕ → Bool
begins_digit [] = false
begins_digit (b ∷ bytes) = is_ascii_digit b

-- the mark that the byte is whatever follows it
abbrev pub kind_of_mark : ℕ → Kind
kind_of_mark b = if b == 40 then kinds.Mark marks.Open else if b == 41 then kinds.Mark marks.Close
    else if b == 44 then kinds.Mark marks.Comma else if b == 59 then kinds.Mark marks.Semicolon
    else if b == 42 then kinds.Mark marks.Star else if b == 37 then kinds.Mark marks.Percent
    else if b == 43 then kinds.Mark marks.Plus else if b == 61 then kinds.Mark marks.Equal
    else kinds.Other

-- what the first byte tells of what begins there
abbrev pub kind_of_sign : ℕ → Kind
kind_of_sign b = if b == 39 then kinds.Quote else if b == 34 then kinds.DoubleQuote
    else if b == 36 then kinds.Dollar else if b == 46 then kinds.Dot else if b == 45 then kinds.Minus
    else if b == 47 then kinds.Slash else if b == 60 then kinds.Less else if b == 62 then kinds.Greater
    else kind_of_mark b

abbrev pub kind_of : ℕ → Kind
kind_of b = if begins_name b then kinds.Letter else if is_space b then kinds.Space
    else if is_ascii_digit b then kinds.Digit else if is_strange b then kinds.Strange else kind_of_sign b

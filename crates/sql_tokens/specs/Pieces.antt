-- What a text begins with: a gap, which is a space or a comment, or a token; and what follows it.
use Rattle.std.specs.Prelude.{◌≡◌, ◌≢◌, ◌==◌, ◌||◌, ◌&&◌, ◌⊎◌, ◌+◌, ◌-◌, ◌*◌, ◌^◌, ℕ, pos, nat_lt, nat_le, Bool, true, false, List, [], ◌∷◌, ◌++◌, length, take, drop, map, flat_map, codes, bytes_eq, Option, Some, None, MatchBool, MatchOption, if◌then◌else◌}
use Rattle.std.specs.Char.{is_ascii_digit, to_ascii_lowercase}
use Rattle.sql_tokens.specs.declared.word.Word.{Word as ReservedWord}
use Rattle.sql_tokens.specs.declared.mark.Mark.TheVariants.{Bars, Unequal, Minus, Slash, Dot, Less, AtMost, Greater, AtLeast}
use Rattle.sql_tokens.specs.declared.token.Token.{Token as AnyToken}
use Rattle.sql_tokens.specs.declared.token.Token.TheVariants.{Word, Mark, Name, Number, Least, Str, Param, Fault}
use Rattle.sql_tokens.specs.declared.token.TokenFault.TheVariants.{Fraction, OutOfRange, Run, Bad, LongName, LargeParam}
use Rattle.sql_tokens.specs.declared.piece.Piece.{Piece}
use Rattle.sql_tokens.specs.declared.piece.Piece.TheVariants.{Gap, Token}
use Rattle.sql_tokens.specs.declared.bytes.Class.TheVariants as classes
use Rattle.sql_tokens.specs.declared.bytes.Kind.{Kind}
use Rattle.sql_tokens.specs.declared.bytes.Kind.TheVariants as kinds
use Rattle.sql_tokens.specs.Words.{spelling}
use Rattle.sql_tokens.specs.Bytes.{front, behind, begins_with, begins_digit, kind_of}

-- the piece is this token, and this follows it
abbrev pub Reads : AnyToken → List ℕ → Piece → List ℕ → Type 0
Reads token after piece rest = (piece ≡ Token token) × (rest ≡ after)

-- the piece is a gap, and this follows it
abbrev pub Skips : List ℕ → Piece → List ℕ → Type 0
Skips after piece rest = (piece ≡ Gap) × (rest ≡ after)

-- a name of at most 63 bytes
abbrev pub name_token : List ℕ → Bool → AnyToken
name_token text quoted = if nat_le (length text) 63
    then Name (record { text = text; quoted = quoted }) else Fault LongName

-- a text in lower case that stands without quotes is the reserved word that is spelled so, else a name
abbrev pub IsCalled : List ℕ → AnyToken → Type 0
IsCalled text token = ((word : ReservedWord) × (spelling word ≡ text) × (token ≡ Word word))
    ⊎ (((word : ReservedWord) → spelling word ≢ text) × (token ≡ name_token text false))

-- a word or a name without quotes goes on as long as bytes of names follow
abbrev pub NameOf : List ℕ → Piece → List ℕ → Type 0
NameOf bytes piece rest = (token : AnyToken) × IsCalled (map to_ascii_lowercase (front classes.Name bytes)) token
    × Reads token (behind classes.Name bytes) piece rest

-- the number that decimal digits go on to, after one that was read
abbrev pub value_after : ℕ → List ℕ → ℕ
value_after n [] = n
value_after n (digit ∷ digits) = value_after (n * 10 + (digit - 48)) digits

-- the number of decimal digits
abbrev pub value_of : List ℕ → ℕ
value_of digits = value_after 0 digits

-- an exponent behind its `e`: a digit, or a sign and a digit
abbrev pub begins_exponent : List ℕ → Bool
begins_exponent [] = false
begins_exponent (b ∷ bytes) = is_ascii_digit b || ((b == 43 || b == 45) && begins_digit bytes)

-- behind digits stands a point or an exponent
abbrev pub has_fraction : List ℕ → Bool
has_fraction [] = false
has_fraction (b ∷ bytes) = b == 46 || ((b == 101 || b == 69) && begins_exponent bytes)

abbrev pub whole_token : ℕ → AnyToken
whole_token n = if nat_lt n (2 ^ 63) then Number (pos n)
    else if n == 2 ^ 63 then Least else Fault OutOfRange

-- a whole number, or one with a point or an exponent
abbrev pub NumberOf : List ℕ → Piece → List ℕ → Type 0
NumberOf bytes piece rest = Reads
    (if has_fraction (behind classes.Digit bytes) then Fault Fraction
    else whole_token (value_of (front classes.Digit bytes)))
    (behind classes.Digit bytes) piece rest

-- a point, which before a digit is that of a number
abbrev pub DotOf : List ℕ → Piece → List ℕ → Type 0
DotOf bytes piece rest = Reads (if begins_digit bytes then Fault Fraction else Mark Dot) bytes piece rest

-- `$` without digits counts as `$0`
abbrev pub param_token : ℕ → AnyToken
param_token n = if n == 0 then Fault Bad else if nat_le n 1000 then Param n else Fault LargeParam

-- the parameter of these digits, which follow `$`
abbrev pub ParamOf : List ℕ → Piece → List ℕ → Type 0
ParamOf bytes piece rest = Reads (param_token (value_of (front classes.Digit bytes)))
    (behind classes.Digit bytes) piece rest

-- a run of strange marks: `||` alone is a mark, and so is `!` alone with the `=` that follows it
abbrev pub RunOf : List ℕ → List ℕ → Piece → List ℕ → Type 0
RunOf run after piece rest = MatchBool (bytes_eq run (codes "||")) (Reads (Mark Bars) after piece rest)
    (MatchBool (bytes_eq run (codes "!") && begins_with 61 after)
    (Reads (Mark Unequal) (drop 1 after) piece rest)
    (Reads (Fault (Run (take 63 run))) after piece rest))

abbrev pub StrangeOf : List ℕ → Piece → List ℕ → Type 0
StrangeOf bytes = RunOf (front classes.Strange bytes) (behind classes.Strange bytes)

-- the text with each quote doubled
abbrev pub doubled : ℕ → List ℕ → List ℕ
doubled q text = flat_map (λ b. if b == q then q ∷ q ∷ [] else b ∷ []) text

-- behind a first quote: the text, each quote in it doubled, and a quote that no second follows
abbrev pub Closes : ℕ → List ℕ → List ℕ → List ℕ → Type 0
Closes q bytes text after = (bytes ≡ doubled q text ++ q ∷ after) × (begins_with q after ≡ false)

-- what is read next where these are the last of the bytes: from a zero byte before them on, if there
-- is one, else these
abbrev pub next : List ℕ → List ℕ → List ℕ
next bytes after = behind (classes.But 0) (take (length bytes - length after) bytes) ++ after

-- these are the last of the bytes
abbrev pub EndsWith : List ℕ → List ℕ → Type 0
EndsWith bytes after = (before : List ℕ) × (bytes ≡ before ++ after)

-- a text in quotes is the token that is made of it; one that does not end is a fault
abbrev pub QuotedOf : ℕ → (List ℕ → AnyToken) → List ℕ → Piece → List ℕ → Type 0
QuotedOf q made bytes piece rest = ((text after : List ℕ) × Closes q bytes text after
    × Reads (made text) (next bytes after) piece rest)
    ⊎ (((text after : List ℕ) → Closes q bytes text after → ⊥) × Reads (Fault Bad) [] piece rest)

-- a name in quotes is not empty
abbrev pub quoted_name : List ℕ → AnyToken
quoted_name [] = Fault Bad
quoted_name (b ∷ text) = name_token (b ∷ text) true

-- what follows the first `*/`
abbrev pub after_end : List ℕ → Option (List ℕ)
after_end [] = None
after_end (b ∷ bytes) = if b == 42 && begins_with 47 bytes then Some (drop 1 bytes) else after_end bytes

-- behind `/*` a comment goes up to the first `*/`; one that does not end is a fault
abbrev pub BlockOf : List ℕ → Piece → List ℕ → Type 0
BlockOf bytes piece rest = MatchOption (after_end bytes) (Reads (Fault Bad) [] piece rest)
    (λ after. Skips (next bytes after) piece rest)

-- behind `-`: a second one begins a comment to the end of the line
abbrev pub MinusOf : List ℕ → Piece → List ℕ → Type 0
MinusOf bytes piece rest = MatchBool (begins_with 45 bytes) (Skips (behind classes.Line bytes) piece rest)
    (Reads (Mark Minus) bytes piece rest)

-- behind `/`: a star begins a comment
abbrev pub SlashOf : List ℕ → Piece → List ℕ → Type 0
SlashOf bytes piece rest = MatchBool (begins_with 42 bytes) (BlockOf (drop 1 bytes) piece rest)
    (Reads (Mark Slash) bytes piece rest)

abbrev pub LessOf : List ℕ → Piece → List ℕ → Type 0
LessOf bytes piece rest = MatchBool (begins_with 61 bytes) (Reads (Mark AtMost) (drop 1 bytes) piece rest)
    (MatchBool (begins_with 62 bytes) (Reads (Mark Unequal) (drop 1 bytes) piece rest)
    (Reads (Mark Less) bytes piece rest))

abbrev pub GreaterOf : List ℕ → Piece → List ℕ → Type 0
GreaterOf bytes piece rest = MatchBool (begins_with 61 bytes)
    (Reads (Mark AtLeast) (drop 1 bytes) piece rest) (Reads (Mark Greater) bytes piece rest)

-- the piece that begins with a byte of this kind: of the bytes, or of those behind the first
abbrev pub PieceBy : Kind → List ℕ → List ℕ → Piece → List ℕ → Type 0
PieceBy kinds.Letter bytes behind_first = NameOf bytes
PieceBy kinds.Space bytes behind_first = Skips behind_first
PieceBy kinds.Digit bytes behind_first = NumberOf bytes
PieceBy kinds.Strange bytes behind_first = StrangeOf bytes
PieceBy kinds.Quote bytes behind_first = QuotedOf 39 Str behind_first
PieceBy kinds.DoubleQuote bytes behind_first = QuotedOf 34 quoted_name behind_first
PieceBy kinds.Dollar bytes behind_first = ParamOf behind_first
PieceBy kinds.Dot bytes behind_first = DotOf behind_first
PieceBy kinds.Minus bytes behind_first = MinusOf behind_first
PieceBy kinds.Slash bytes behind_first = SlashOf behind_first
PieceBy kinds.Less bytes behind_first = LessOf behind_first
PieceBy kinds.Greater bytes behind_first = GreaterOf behind_first
PieceBy (kinds.Mark mark) bytes behind_first = Reads (Mark mark) behind_first
PieceBy kinds.Other bytes behind_first = Reads (Fault Bad) behind_first

-- the bytes begin with this piece, and this follows it
abbrev pub PieceOf : List ℕ → Piece → List ℕ → Type 0
PieceOf [] piece rest = ⊥
PieceOf (b ∷ bytes) piece rest = PieceBy (kind_of b) (b ∷ bytes) bytes piece rest

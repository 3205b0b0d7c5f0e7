-- Which lexemes a text can have, and which tokens they are.
use Rattle.std.specs.Prelude.{◌≡◌, ◌≤◌, ◌<◌, ◌^◌, ℕ, pos, Bool, true, false, not, List, [], ◌∷◌, length}
use Rattle.sql_tokens.specs.declared.mark.Mark.TheVariants as marks
use Rattle.sql_tokens.specs.declared.token.Token.{Token}
use Rattle.sql_tokens.specs.declared.token.Token.TheVariants as token
use Rattle.sql_tokens.specs.Pieces.{whole_token}
use Rattle.sql_print.specs.Spelling.{Lexeme, word, mark, sign, name, function, command, whole, string, param, is_plain}

-- the token that the lexeme is read as
abbrev pub token_of : Lexeme → Token
token_of (word w) = token.Word w
token_of (mark m) = token.Mark m
token_of sign = token.Mark marks.Minus
token_of (name text) = token.Name (record { text = text; quoted = not (is_plain text) })
token_of (function text) = token.Name (record { text = text; quoted = false })
token_of (command text) = token.Name (record { text = text; quoted = false })
token_of (whole number) = whole_token number
token_of (string text) = token.Str text
token_of (param number) = token.Param number

-- none of the bytes is 0
abbrev pub HasNoZero : List ℕ → Type 0
HasNoZero [] = Unit {0}
HasNoZero (byte ∷ bytes) = (0 < byte) × HasNoZero bytes

-- a text can have it: a name of 1 to 63 bytes, none of them 0; a number up to 2 ^ 63; a string with
-- no zero byte; a parameter from 1 to 1000
abbrev pub IsLexeme : Lexeme → Type 0
IsLexeme (name text) = (0 < length text) × (length text ≤ 63) × HasNoZero text
IsLexeme (function text) = (is_plain text ≡ true) × (length text ≤ 63)
IsLexeme (command text) = (is_plain text ≡ true) × (length text ≤ 63)
IsLexeme (whole number) = number ≤ 2 ^ 63
IsLexeme (string text) = HasNoZero text
IsLexeme (param number) = (1 ≤ number) × (number ≤ 1000)
IsLexeme _ = Unit {0}

abbrev pub AreLexemes : List Lexeme → Type 0
AreLexemes [] = Unit {0}
AreLexemes (x ∷ xs) = IsLexeme x × AreLexemes xs

-- How a list of tokens is written: the one spelling of each token, and where a space stands.
use Rattle.std.specs.Prelude.{ℕ, Bool, true, false, not, ◌&&◌, ◌||◌, ◌==◌, List, [], ◌∷◌, ◌++◌, map, if◌then◌else◌, codes, bytes_eq}
use Rattle.std.specs.List.{flat_map, list_any, list_all}
use Rattle.std.specs.Fmt.{decimal}
use Rattle.std.specs.Char.{to_ascii_uppercase, is_ascii_lowercase, is_ascii_digit}
use Rattle.sql_tokens.specs.declared.word.Word.{Word}
use Rattle.sql_tokens.specs.declared.word.TheConstants.{WORDS}
use Rattle.sql_tokens.specs.declared.mark.Mark.{Mark}
use Rattle.sql_tokens.specs.declared.mark.Mark.TheVariants.{Open, Close, Comma, Semicolon, Dot, Star, Slash, Percent, Plus, Minus, Equal, Unequal, Less, AtMost, Greater, AtLeast, Bars}
use Rattle.sql_tokens.specs.Words.{spelling}

-- a token, by what it is written as: a reserved word, a mark, the minus in front of an operand, a
-- name, the name of a function, a word of a command that is not reserved, a whole number, a string,
-- a parameter
pub data Lexeme : Type 0 where
  word : Word → Lexeme
  mark : Mark → Lexeme
  sign : Lexeme
  name : List ℕ → Lexeme
  function : List ℕ → Lexeme
  command : List ℕ → Lexeme
  whole : ℕ → Lexeme
  string : List ℕ → Lexeme
  param : ℕ → Lexeme

-- the text is a reserved word in lower case
abbrev pub is_reserved : List ℕ → Bool
is_reserved text = list_any (λ word. bytes_eq (spelling word) text) WORDS

-- a letter in lower case, or `_`
abbrev pub begins_plain : ℕ → Bool
begins_plain byte = is_ascii_lowercase byte || byte == 95

-- such a byte, or a digit
abbrev pub goes_on_plain : ℕ → Bool
goes_on_plain byte = begins_plain byte || is_ascii_digit byte

-- the name needs no quotes: letters in lower case, digits and `_`, no digit first, and not reserved
abbrev pub is_plain : List ℕ → Bool
is_plain [] = false
is_plain (byte ∷ bytes) = begins_plain byte && (list_all goes_on_plain bytes && not (is_reserved (byte ∷ bytes)))

-- a byte of a text in quotes: the quote is written twice
abbrev pub inside : ℕ → ℕ → List ℕ
inside quote byte = if byte == quote then quote ∷ quote ∷ [] else byte ∷ []

-- a text in quotes
abbrev pub in_quotes : ℕ → List ℕ → List ℕ
in_quotes quote text = quote ∷ (flat_map (inside quote) text ++ quote ∷ [])

abbrev pub mark_text : Mark → List ℕ
mark_text Open = codes "("
mark_text Close = codes ")"
mark_text Comma = codes ","
mark_text Semicolon = codes ";"
mark_text Dot = codes "."
mark_text Star = codes "*"
mark_text Slash = codes "/"
mark_text Percent = codes "%"
mark_text Plus = codes "+"
mark_text Minus = codes "-"
mark_text Equal = codes "="
mark_text Unequal = codes "<>"
mark_text Less = codes "<"
mark_text AtMost = codes "<="
mark_text Greater = codes ">"
mark_text AtLeast = codes ">="
mark_text Bars = codes "||"

-- how the token is spelled: words in upper case, names in `"` where they are not plain, strings in `'`
abbrev pub spelled : Lexeme → List ℕ
spelled (word w) = map to_ascii_uppercase (spelling w)
spelled (mark m) = mark_text m
spelled sign = codes "-"
spelled (name text) = if is_plain text then text else in_quotes 34 text
spelled (function text) = text
spelled (command text) = map to_ascii_uppercase text
spelled (whole number) = decimal number
spelled (string text) = in_quotes 39 text
spelled (param number) = 36 ∷ decimal number

-- no space stands after the mark
abbrev pub mark_holds : Mark → Bool
mark_holds Open = true
mark_holds Dot = true
mark_holds m = false

-- no space stands after `(`, `.`, a minus in front of its operand, the name of a function
abbrev pub holds : Lexeme → Bool
holds (mark m) = mark_holds m
holds sign = true
holds (function text) = true
holds x = false

-- no space stands before the mark
abbrev pub mark_clings : Mark → Bool
mark_clings Close = true
mark_clings Comma = true
mark_clings Dot = true
mark_clings m = false

-- no space stands before `)`, `,` and `.`
abbrev pub clings : Lexeme → Bool
clings (mark m) = mark_clings m
clings x = false

-- tokens with one space between them; `held`: none stands before the first
abbrev pub spaced : Bool → List Lexeme → List ℕ
spaced held [] = []
spaced held (x ∷ xs) = (if held || clings x then [] else 32 ∷ []) ++ (spelled x ++ spaced (holds x) xs)

-- the text of tokens
abbrev pub text_of : List Lexeme → List ℕ
text_of xs = spaced true xs

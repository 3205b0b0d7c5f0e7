-- Which lexemes may be written, whatever the limits of texts.
use Rattle.std.specs.Prelude.{◌≤◌, ◌<◌, ◌^◌, List, [], ◌∷◌, length}
use Rattle.sql_tokens.specs.declared.mark.Mark.TheVariants.{Semicolon}
use Rattle.sql_print.specs.Spelling.{Lexeme, mark, name, param}
use Rattle.sql_profile.specs.Lexemes.{HasNoZero, IsLexeme}

-- a name of one byte or more, none of them 0; a parameter from 1 on, below 2 ^ 64; any other that a text can have but `;`
abbrev pub IsWritable : Lexeme → Type 0
IsWritable (name text) = (0 < length text) × HasNoZero text
IsWritable (param number) = (1 ≤ number) × (number < 2 ^ 64)
IsWritable (mark Semicolon) = ⊥
IsWritable x = IsLexeme x

abbrev pub AreWritable : List Lexeme → Type 0
AreWritable [] = Unit {0}
AreWritable (x ∷ xs) = IsWritable x × AreWritable xs

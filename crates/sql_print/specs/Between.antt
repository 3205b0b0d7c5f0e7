-- What stands between the parts of a list.
use Rattle.std.specs.Prelude.{List, [], ◌∷◌, Option, Some, None}
use Rattle.sql_tokens.specs.declared.mark.Mark.TheVariants as marks
use Rattle.sql_tokens.specs.declared.word.Word.TheVariants as words
use Rattle.sql_print.specs.declared.between.Between.{Between}
use Rattle.sql_print.specs.declared.between.Between.TheVariants.{Or, And, Bars, Comma}
use Rattle.sql_print.specs.Spelling.{Lexeme, word, mark}

abbrev pub between_token : Between → Lexeme
between_token Or = word words.Or
between_token And = word words.And
between_token Bars = mark marks.Bars
between_token Comma = mark marks.Comma

-- what stands before an item: nothing before the first
abbrev pub before_tokens : Option Between → List Lexeme
before_tokens None = []
before_tokens (Some between) = between_token between ∷ []

use Rattle.std.proofs.Common.{◌≢◌, ℕ, ◌<◌, get_or}
use Rattle.sql_tokens.specs.declared.word.Word.{Word}
use Rattle.sql_tokens.specs.Words.{spelling}
use Rattle.sql_tokens.proofs.name.word_of.Given as goal

-- none of the words that were passed is spelled so
abbrev pub invariant-loop-word : goal.invariant-loop-word
invariant-loop-word l = (k : ℕ) (d : Word) → k < l.word-index → spelling (get_or l.word-items k d) ≢ l.text

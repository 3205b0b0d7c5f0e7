use Rattle.sql_tokens.proofs.Words.{every_word}
use Rattle.sql_tokens.proofs.word.all_words.Goals as goal

pub returns-clause-every : goal.returns-clause-every
returns-clause-every c = every_word

use Rattle.pgproto.proofs.SpelledAgain.{lines_of_grammar}
use Rattle.pgproto.proofs.laws.lines_of_grammar.Goals as goal

pub returns : goal.returns
returns c = lines_of_grammar

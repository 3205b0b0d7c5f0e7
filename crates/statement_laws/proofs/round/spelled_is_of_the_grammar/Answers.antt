use Rattle.statement_laws.proofs.GrammarStatements.{statement_tree}
use Rattle.statement_laws.proofs.round.spelled_is_of_the_grammar.Goals as goal

pub returns : goal.returns
returns c = statement_tree

use Rattle.pool_config.proofs.Laws.{given_means, given_is}
use Rattle.pool_config.proofs.Allowing.{given_allowed}
use Rattle.pool_config.proofs.parse.parse_config.Goals as goal

pub returns-clause-says : goal.returns-clause-says
returns-clause-says c = given_means c.args.text.now _ c.answer_to.ensures

pub returns-clause-found : goal.returns-clause-found
returns-clause-found c = λ config is. given_is c.args.text.now config _ c.answer_to.ensures is

pub returns-clause-allowed : goal.returns-clause-allowed
returns-clause-allowed c = given_allowed c.args.text.now _ c.answer_to.ensures

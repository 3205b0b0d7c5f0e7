use Rattle.outcomes.proofs.Chained.{passed_none, passed_some}
use Rattle.outcomes.proofs.index.first_of.Goals as goal

pub returns-in-None : goal.returns-in-None
returns-in-None c = passed_none c.args.table c.args.key c.args.chains.now c.first_in.result c.in-None.is c.first_in.ensures

pub returns-in-Some : goal.returns-in-Some
returns-in-Some c = passed_some c.args.table c.args.key c.in-Some.key c.args.chains.now c.first_behind.result c.in-Some.is c.first_behind.ensures

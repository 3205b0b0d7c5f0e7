use Rattle.pool_run.proofs.Ending.{schema_stop}
use Rattle.pool_run.proofs.serving.served_of.Goals as goal

pub returns-in-Err-clause-ends : goal.returns-in-Err-clause-ends
returns-in-Err-clause-ends c = λ contents before command s o e. schema_stop c.in-Err.stop contents before command c.args.config c.args.schema.now s o c.in-Err.ensures.answer e.0 e.1

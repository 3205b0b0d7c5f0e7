use Rattle.statement_laws.proofs.RunnableLaw.{can_be_run}
use Rattle.statement_laws.proofs.runnable.can_be_run.Goals as goal

pub returns : goal.returns
returns c = can_be_run

use Rattle.statement_laws.proofs.Checks.{checked_one}
use Rattle.statement_laws.proofs.one_answer.checks_agree.Goals as goal

pub returns : goal.returns
returns c = checked_one

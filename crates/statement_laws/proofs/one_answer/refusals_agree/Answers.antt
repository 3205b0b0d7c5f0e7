use Rattle.statement_laws.proofs.Checks.{refused_one}
use Rattle.statement_laws.proofs.one_answer.refusals_agree.Goals as goal

pub returns : goal.returns
returns c = refused_one

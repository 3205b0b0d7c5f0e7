use Rattle.std.proofs.Common.{sym}
use Rattle.postgres_link.proofs.Steps.{refused_step}
use Rattle.postgres_link.proofs.saying.read_on.Goals as goal

pub returns-in-Error-clause-step : goal.returns-in-Error-clause-step
returns-in-Error-clause-step c = rw c.in-Error.is (rw (sym c.as_slice-in-Error.ensures) (refused_step c.as_slice-in-Error.result.now c.refuse.result c.args.asked.now c.refuse.new.asked c.refuse.ensures))

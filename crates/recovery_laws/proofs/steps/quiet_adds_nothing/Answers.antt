use Rattle.recovery_laws.proofs.Holding.{nothing_added}
use Rattle.recovery_laws.proofs.steps.quiet_adds_nothing.Goals as goal

pub returns : goal.returns
returns c = nothing_added

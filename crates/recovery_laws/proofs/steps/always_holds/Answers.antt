use Rattle.recovery_laws.proofs.Holding.{always_right}
use Rattle.recovery_laws.proofs.steps.always_holds.Goals as goal

pub returns : goal.returns
returns c = always_right

use Rattle.recovery_laws.proofs.Holding.{always_agree}
use Rattle.recovery_laws.proofs.steps.replicas_agree.Goals as goal

pub returns : goal.returns
returns c = always_agree

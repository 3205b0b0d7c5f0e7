use Rattle.recovery_laws.proofs.AlwaysFit.{always_fit}
use Rattle.recovery_laws.proofs.steps.steps_are_fit.Goals as goal

pub returns : goal.returns
returns c = always_fit

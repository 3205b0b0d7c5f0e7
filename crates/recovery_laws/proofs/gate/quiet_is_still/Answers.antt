use Rattle.recovery_laws.proofs.Still.{always_still}
use Rattle.recovery_laws.proofs.gate.quiet_is_still.Goals as goal

pub returns : goal.returns
returns c = always_still

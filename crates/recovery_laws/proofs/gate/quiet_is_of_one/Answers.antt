use Rattle.recovery_laws.proofs.GateQuieting.{quiet_of_one}
use Rattle.recovery_laws.proofs.gate.quiet_is_of_one.Goals as goal

pub returns : goal.returns
returns c = quiet_of_one

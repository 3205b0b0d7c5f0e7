use Rattle.recovery_laws.proofs.Apart.{together_never}
use Rattle.recovery_laws.proofs.gate.never_together.Goals as goal

pub returns : goal.returns
returns c = together_never

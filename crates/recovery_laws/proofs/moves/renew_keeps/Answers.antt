use Rattle.recovery_laws.proofs.Quieting.{renewed_kept}
use Rattle.recovery_laws.proofs.moves.renew_keeps.Goals as goal

pub returns : goal.returns
returns c = renewed_kept

use Rattle.recovery_laws.proofs.Attaching.{backend_kept}
use Rattle.recovery_laws.proofs.moves.attach_keeps.Goals as goal

pub returns : goal.returns
returns c = backend_kept

use Rattle.recovery_laws.proofs.Sparing.{swap_kept}
use Rattle.recovery_laws.proofs.moves.swap_keeps.Goals as goal

pub returns : goal.returns
returns c = swap_kept

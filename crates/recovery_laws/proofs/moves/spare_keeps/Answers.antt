use Rattle.recovery_laws.proofs.Sparing.{spare_kept}
use Rattle.recovery_laws.proofs.moves.spare_keeps.Goals as goal

pub returns : goal.returns
returns c = spare_kept

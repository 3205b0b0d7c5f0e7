use Rattle.recovery_laws.proofs.Quieting.{turned_kept}
use Rattle.recovery_laws.proofs.moves.turn_keeps.Goals as goal

pub returns : goal.returns
returns c = turned_kept

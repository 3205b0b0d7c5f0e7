use Rattle.one_copy_laws.proofs.FallsLeaving.{lost_kept}
use Rattle.one_copy_laws.proofs.falls.lost_keeps.Goals as goal

pub returns : goal.returns
returns c = lost_kept

use Rattle.one_copy_laws.proofs.LooksEndingLaw.{ending_kept}
use Rattle.one_copy_laws.proofs.looks.ending_keeps.Goals as goal

pub returns : goal.returns
returns c = ending_kept

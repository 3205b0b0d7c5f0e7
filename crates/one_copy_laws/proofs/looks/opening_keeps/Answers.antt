use Rattle.one_copy_laws.proofs.LooksOpeningLaw.{opened_kept}
use Rattle.one_copy_laws.proofs.looks.opening_keeps.Goals as goal

pub returns : goal.returns
returns c = opened_kept

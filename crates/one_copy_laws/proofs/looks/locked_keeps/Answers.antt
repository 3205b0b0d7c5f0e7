use Rattle.one_copy_laws.proofs.LooksLockingLaw.{locked_kept}
use Rattle.one_copy_laws.proofs.looks.locked_keeps.Goals as goal

pub returns : goal.returns
returns c = locked_kept

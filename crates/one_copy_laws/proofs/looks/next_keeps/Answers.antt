use Rattle.one_copy_laws.proofs.LooksLooking.{goes_on_kept}
use Rattle.one_copy_laws.proofs.looks.next_keeps.Goals as goal

pub returns : goal.returns
returns c = goes_on_kept

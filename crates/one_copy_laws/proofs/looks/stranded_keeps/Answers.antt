use Rattle.one_copy_laws.proofs.LooksLooking.{strands_kept}
use Rattle.one_copy_laws.proofs.looks.stranded_keeps.Goals as goal

pub returns : goal.returns
returns c = strands_kept

use Rattle.one_copy_laws.proofs.LooksChoosing.{chosen_kept}
use Rattle.one_copy_laws.proofs.looks.chosen_keeps.Goals as goal

pub returns : goal.returns
returns c = chosen_kept

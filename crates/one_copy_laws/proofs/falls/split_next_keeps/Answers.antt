use Rattle.one_copy_laws.proofs.FallsSplitting.{split_next_kept}
use Rattle.one_copy_laws.proofs.falls.split_next_keeps.Goals as goal

pub returns : goal.returns
returns c = split_next_kept

use Rattle.one_copy_laws.proofs.FallsSplitting.{split_on_kept}
use Rattle.one_copy_laws.proofs.falls.split_on_keeps.Goals as goal

pub returns : goal.returns
returns c = split_on_kept

use Rattle.one_copy_laws.proofs.SplitsSplitLaw.{split_kept}
use Rattle.one_copy_laws.proofs.splits.split_keeps.Goals as goal

pub returns : goal.returns
returns c = split_kept

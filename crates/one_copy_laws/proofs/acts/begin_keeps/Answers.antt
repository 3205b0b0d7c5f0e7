use Rattle.one_copy_laws.proofs.ActsBeginning.{begin_kept}
use Rattle.one_copy_laws.proofs.acts.begin_keeps.Goals as goal

pub returns : goal.returns
returns c = begin_kept

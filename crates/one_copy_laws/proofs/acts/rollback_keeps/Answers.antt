use Rattle.one_copy_laws.proofs.ActsBeginning.{rollback_kept}
use Rattle.one_copy_laws.proofs.acts.rollback_keeps.Goals as goal

pub returns : goal.returns
returns c = rollback_kept

use Rattle.one_copy_laws.proofs.ActsLocking.{lock_kept}
use Rattle.one_copy_laws.proofs.acts.lock_keeps.Goals as goal

pub returns : goal.returns
returns c = lock_kept

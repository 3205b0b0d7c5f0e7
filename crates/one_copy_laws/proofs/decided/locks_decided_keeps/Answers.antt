use Rattle.one_copy_laws.proofs.DecidedLocks.{locks_decided_kept}
use Rattle.one_copy_laws.proofs.decided.locks_decided_keeps.Goals as goal

pub returns : goal.returns
returns c = locks_decided_kept

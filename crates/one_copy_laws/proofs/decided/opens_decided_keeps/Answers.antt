use Rattle.one_copy_laws.proofs.DecidedOpens.{opens_decided_kept}
use Rattle.one_copy_laws.proofs.decided.opens_decided_keeps.Goals as goal

pub returns : goal.returns
returns c = opens_decided_kept

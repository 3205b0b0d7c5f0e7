use Rattle.one_copy_laws.proofs.DecidedEnds.{ends_decided_kept}
use Rattle.one_copy_laws.proofs.decided.ends_decided_keeps.Goals as goal

pub returns : goal.returns
returns c = ends_decided_kept

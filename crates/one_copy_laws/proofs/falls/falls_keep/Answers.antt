use Rattle.one_copy_laws.proofs.FallsDying.{falls_kept}
use Rattle.one_copy_laws.proofs.falls.falls_keep.Goals as goal

pub returns : goal.returns
returns c = falls_kept

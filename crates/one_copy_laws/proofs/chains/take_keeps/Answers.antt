use Rattle.one_copy_laws.proofs.ChainsTaking.{take_kept}
use Rattle.one_copy_laws.proofs.chains.take_keeps.Goals as goal

pub returns : goal.returns
returns c = take_kept

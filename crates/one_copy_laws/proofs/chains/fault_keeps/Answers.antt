use Rattle.one_copy_laws.proofs.ChainsFaulting.{fault_kept}
use Rattle.one_copy_laws.proofs.chains.fault_keeps.Goals as goal

pub returns : goal.returns
returns c = fault_kept

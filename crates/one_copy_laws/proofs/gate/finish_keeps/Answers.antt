use Rattle.one_copy_laws.proofs.GateFinishing.{finish_kept}
use Rattle.one_copy_laws.proofs.gate.finish_keeps.Goals as goal

pub returns : goal.returns
returns c = finish_kept

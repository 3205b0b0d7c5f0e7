use Rattle.pool_advice.proofs.Alone.{first_told}
use Rattle.pool_advice.proofs.faults.first_is_told.Goals as goal

pub returns : goal.returns
returns c = first_told

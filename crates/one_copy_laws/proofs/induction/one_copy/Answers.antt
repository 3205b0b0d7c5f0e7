use Rattle.one_copy_laws.proofs.InductionSchedules.{one_copy}
use Rattle.one_copy_laws.proofs.induction.one_copy.Goals as goal

pub returns : goal.returns
returns c = one_copy

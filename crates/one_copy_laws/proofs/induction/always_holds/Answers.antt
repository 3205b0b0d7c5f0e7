use Rattle.one_copy_laws.proofs.InductionSchedules.{always}
use Rattle.one_copy_laws.proofs.induction.always_holds.Goals as goal

pub returns : goal.returns
returns c = always

use Rattle.one_copy_laws.proofs.InductionSchedules.{agreement}
use Rattle.one_copy_laws.proofs.induction.replicas_agree.Goals as goal

pub returns : goal.returns
returns c = agreement

use Rattle.one_copy_laws.proofs.InductionSchedules.{causes}
use Rattle.one_copy_laws.proofs.induction.detachments_have_causes.Goals as goal

pub returns : goal.returns
returns c = causes

use Rattle.one_copy_laws.proofs.InductionSchedules.{commits_done}
use Rattle.one_copy_laws.proofs.induction.commits_are_done.Goals as goal

pub returns : goal.returns
returns c = commits_done

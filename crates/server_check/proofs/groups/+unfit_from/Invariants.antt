use Rattle.std.proofs.Common.{length}
use Rattle.server_check.proofs.groups.+unfit_from.Given as goal

abbrev pub decreases-unfit_from : goal.decreases-unfit_from
decreases-unfit_from l = length l.questions.now

use Rattle.std.proofs.Common.{length}
use Rattle.server_check.proofs.groups.+differs_from.Given as goal

abbrev pub decreases-differs_from : goal.decreases-differs_from
decreases-differs_from l = length l.questions.now

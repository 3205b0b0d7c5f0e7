use Rattle.std.proofs.Common.{length}
use Rattle.server_check.proofs.faults.+put_faults.Given as goal

abbrev pub decreases-put_faults : goal.decreases-put_faults
decreases-put_faults l = length l.questions.now

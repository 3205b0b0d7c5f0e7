use Rattle.std.proofs.Common.{length}
use Rattle.online_recovery.proofs.rules.+numbered.Given as goal

abbrev pub decreases-numbered : goal.decreases-numbered
decreases-numbered l = length l.all.now

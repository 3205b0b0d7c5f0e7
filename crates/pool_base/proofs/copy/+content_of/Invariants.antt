use Rattle.std.proofs.Common.{length}
use Rattle.pool_base.proofs.copy.+content_of.Given as goal

abbrev pub decreases-content_of : goal.decreases-content_of
decreases-content_of l = length l.names.now

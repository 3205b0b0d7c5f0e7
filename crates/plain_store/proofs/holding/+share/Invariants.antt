use Rattle.std.proofs.Common.{length}
use Rattle.plain_store.proofs.holding.+share.Given as goal

abbrev pub decreases-share : goal.decreases-share
decreases-share l = length l.a.now

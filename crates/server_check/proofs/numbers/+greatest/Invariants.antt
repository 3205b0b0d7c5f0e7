use Rattle.std.proofs.Common.{length}
use Rattle.server_check.proofs.numbers.+greatest.Given as goal

abbrev pub decreases-greatest : goal.decreases-greatest
decreases-greatest l = length l.numbers.now

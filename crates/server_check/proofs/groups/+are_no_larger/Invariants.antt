use Rattle.std.proofs.Common.{length}
use Rattle.server_check.proofs.groups.+are_no_larger.Given as goal

abbrev pub decreases-are_no_larger : goal.decreases-are_no_larger
decreases-are_no_larger l = length l.servers.now

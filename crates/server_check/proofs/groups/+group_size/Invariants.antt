use Rattle.std.proofs.Common.{length}
use Rattle.server_check.proofs.groups.+group_size.Given as goal

abbrev pub decreases-group_size : goal.decreases-group_size
decreases-group_size l = length l.servers.now

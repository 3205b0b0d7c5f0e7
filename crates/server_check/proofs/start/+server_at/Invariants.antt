use Rattle.std.proofs.Common.{length}
use Rattle.server_check.proofs.start.+server_at.Given as goal

abbrev pub decreases-server_at : goal.decreases-server_at
decreases-server_at l = length l.servers.now

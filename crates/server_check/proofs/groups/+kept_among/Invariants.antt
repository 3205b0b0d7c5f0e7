use Rattle.std.proofs.Common.{length}
use Rattle.server_check.proofs.groups.+kept_among.Given as goal

abbrev pub decreases-kept_among : goal.decreases-kept_among
decreases-kept_among l = length l.servers.now

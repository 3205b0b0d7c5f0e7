use Rattle.std.proofs.Common.{length}
use Rattle.server_check.proofs.verdict.+push_group.Given as goal

abbrev pub decreases-push_group : goal.decreases-push_group
decreases-push_group l = length l.servers.now

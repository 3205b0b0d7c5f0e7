use Rattle.std.proofs.Common.{length}
use Rattle.server_check.proofs.lines.+put_servers.Given as goal

abbrev pub decreases-put_servers : goal.decreases-put_servers
decreases-put_servers l = length l.servers.now

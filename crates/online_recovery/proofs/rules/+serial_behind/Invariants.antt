use Rattle.std.proofs.Common.{length}
use Rattle.online_recovery.proofs.rules.+serial_behind.Given as goal

abbrev pub decreases-serial_behind : goal.decreases-serial_behind
decreases-serial_behind l = length l.tables.now

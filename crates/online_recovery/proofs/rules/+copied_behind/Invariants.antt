use Rattle.std.proofs.Common.{length}
use Rattle.online_recovery.proofs.rules.+copied_behind.Given as goal

abbrev pub decreases-copied_behind : goal.decreases-copied_behind
decreases-copied_behind l = length l.tables.now

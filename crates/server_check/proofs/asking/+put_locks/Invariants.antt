use Rattle.std.proofs.Common.{length}
use Rattle.server_check.proofs.asking.+put_locks.Given as goal

abbrev pub decreases-put_locks : goal.decreases-put_locks
decreases-put_locks l = length l.tables.now

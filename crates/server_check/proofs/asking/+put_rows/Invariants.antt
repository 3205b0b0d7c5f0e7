use Rattle.std.proofs.Common.{length}
use Rattle.server_check.proofs.asking.+put_rows.Given as goal

abbrev pub decreases-put_rows : goal.decreases-put_rows
decreases-put_rows l = length l.tables.now

use Rattle.std.proofs.Common.{length}
use Rattle.checked_sql.proofs.read.+are_results.Given as goal

abbrev pub decreases-are_results : goal.decreases-are_results
decreases-are_results l = length l.list.now

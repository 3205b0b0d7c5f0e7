use Rattle.std.proofs.Common.{length}
use Rattle.plain_store.proofs.holding.+are_in_one.Given as goal

abbrev pub decreases-are_in_one : goal.decreases-are_in_one
decreases-are_in_one l = length l.places.now

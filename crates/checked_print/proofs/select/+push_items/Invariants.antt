use Rattle.std.proofs.Common.{length}
use Rattle.checked_print.proofs.select.+push_items.Given as goal

abbrev pub decreases-push_items : goal.decreases-push_items
decreases-push_items l = length l.list.now

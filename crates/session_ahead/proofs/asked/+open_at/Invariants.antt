use Rattle.std.proofs.Common.{length}
use Rattle.session_ahead.proofs.asked.+open_at.Given as goal

abbrev pub decreases-open_at : goal.decreases-open_at
decreases-open_at l = length l.all.now

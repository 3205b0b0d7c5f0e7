use Rattle.std.proofs.Common.{length}
use Rattle.session_ahead.proofs.asked.+have_begun.Given as goal

abbrev pub decreases-have_begun : goal.decreases-have_begun
decreases-have_begun l = length l.heard.now

use Rattle.std.proofs.Common.{length}
use Rattle.session_ahead.proofs.asked.+has_answered.Given as goal

abbrev pub decreases-has_answered : goal.decreases-has_answered
decreases-has_answered l = length l.heard.now

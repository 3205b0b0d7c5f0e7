use Rattle.std.proofs.Common.{length}
use Rattle.session_engine.proofs.choice.+other_among.Given as goal

abbrev pub decreases-other_among : goal.decreases-other_among
decreases-other_among l = length l.heard.now

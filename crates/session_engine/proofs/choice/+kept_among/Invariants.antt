use Rattle.std.proofs.Common.{length}
use Rattle.session_engine.proofs.choice.+kept_among.Given as goal

abbrev pub decreases-kept_among : goal.decreases-kept_among
decreases-kept_among l = length l.heard.now

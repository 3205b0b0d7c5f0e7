use Rattle.std.proofs.Common.{length}
use Rattle.effect_cases.proofs.shelf.+behind.Given as goal

abbrev pub decreases-behind : goal.decreases-behind
decreases-behind l = length l.rows.now

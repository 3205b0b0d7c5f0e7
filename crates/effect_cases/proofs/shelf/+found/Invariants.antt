use Rattle.std.proofs.Common.{length}
use Rattle.effect_cases.proofs.shelf.+found.Given as goal

abbrev pub decreases-found : goal.decreases-found
decreases-found l = length l.rows.now

use Rattle.std.proofs.Common.{length}
use Rattle.effect_cases.proofs.allowed.+row_draws.Given as goal

abbrev pub decreases-row_draws : goal.decreases-row_draws
decreases-row_draws l = length l.cells.now

use Rattle.std.proofs.Common.{length}
use Rattle.effect_cases.proofs.allowed.+all_draws.Given as goal

abbrev pub decreases-all_draws : goal.decreases-all_draws
decreases-all_draws l = length l.rows.now

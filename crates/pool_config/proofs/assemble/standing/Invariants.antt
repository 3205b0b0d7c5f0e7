use Rattle.std.proofs.Common.{◌≡◌, length, option_map}
use Rattle.pool_config.specs.Configuration.{standing, later}
use Rattle.pool_config.proofs.assemble.standing.Given as goal

-- what stands in what is left stands, and else what was found
abbrev pub invariant-loop-left : goal.invariant-loop-left
invariant-loop-left l = later (standing l.parameter l.left) (option_map (λ v. v.now) l.found) ≡ standing l.parameter l.settings

abbrev pub decreases-loop-left : goal.decreases-loop-left
decreases-loop-left l = length l.left

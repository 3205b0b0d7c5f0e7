use Rattle.std.proofs.Common.{◌≡◌, length, map, find}
use Rattle.pool_config.specs.Configuration.{lacks}
use Rattle.pool_config.specs.declared.parameter.Parameter.TheVariants.{ScramVerifier}
use Rattle.pool_config.proofs.assemble.lacking_verifier.Given as goal

-- the first that lacks among what is left is the first of all
abbrev pub invariant-loop-left : goal.invariant-loop-left
invariant-loop-left l = find (lacks l.settings) (map ScramVerifier l.left) ≡ find (lacks l.settings) (map ScramVerifier l.users)

abbrev pub decreases-loop-left : goal.decreases-loop-left
decreases-loop-left l = length l.left

use Rattle.std.proofs.Common.{◌≡◌, ◌++◌, length, map}
use Rattle.pool_config.specs.Configuration.{user_of}
use Rattle.pool_config.proofs.assemble.users_of.Given as goal

abbrev pub invariant-loop-left : goal.invariant-loop-left
invariant-loop-left l = l.all ++ map (user_of l.settings) l.left ≡ map (user_of l.settings) l.users

abbrev pub decreases-loop-left : goal.decreases-loop-left
decreases-loop-left l = length l.left

use Rattle.std.proofs.Common.{◌≡◌, ◌++◌, length, map}
use Rattle.pool_config.specs.Configuration.{node_of}
use Rattle.pool_config.proofs.assemble.nodes_of.Given as goal

abbrev pub invariant-loop-left : goal.invariant-loop-left
invariant-loop-left l = l.nodes ++ map (node_of l.settings) l.left ≡ map (node_of l.settings) l.backends

abbrev pub decreases-loop-left : goal.decreases-loop-left
decreases-loop-left l = length l.left

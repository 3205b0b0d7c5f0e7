use Rattle.std.proofs.Common.{◌≡◌, ◌≤◌, ◌+◌, ◌++◌, length}
use Rattle.std.specs.String.{string_bytes}
use Rattle.pool_config.specs.Printed.{nodes_text}
use Rattle.pool_config.proofs.write.write_nodes.Given as goal

abbrev pub invariant-loop-left : goal.invariant-loop-left
invariant-loop-left l = record {
  all : string_bytes l.text ++ nodes_text l.number l.left ≡ string_bytes l.fn.text ++ nodes_text 0 l.nodes;
  few : l.number + length l.left ≤ 8;
}

abbrev pub decreases-loop-left : goal.decreases-loop-left
decreases-loop-left l = length l.left

use Rattle.std.proofs.Common.{◌≡◌, ◌+◌, ◌-◌, length, take, drop, arith}
use Rattle.pool_config.proofs.Nodes.{one_more_node, item_first, nodes_length}
use Rattle.pool_config.proofs.write.write_nodes.Goals as goal

pub loop-left-preserved : goal.loop-left-preserved
loop-left-preserved c =
    let tail : length (take (length c.loop-left.left.now - 1) (drop 1 c.loop-left.left.now)) + 1 ≡ length c.loop-left.left.now = nodes_length c.loop-left.left.now (omega arith) in
    record {
      all = one_more_node _ _ _ c.loop-left.number c.loop-left.left.now c.node-item.result _ (item_first c.loop-left.left.now c.node-item.result (omega arith) c.node-item.is) c.in_ok-write_node.ensures c.loop-left.invariant.all;
      few = omega arith;
    }

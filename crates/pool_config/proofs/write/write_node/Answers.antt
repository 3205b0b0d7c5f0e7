use Rattle.pool_config.proofs.Nodes.{three}
use Rattle.pool_config.proofs.write.write_node.Goals as goal

pub returns : goal.returns
returns c = three _ _ _ _ _ _ _ (rw c.as_str-host.ensures at c.in_ok-write.ensures.bytes) c.in_ok-write-2.ensures.bytes c.in_ok-write-3.ensures.bytes

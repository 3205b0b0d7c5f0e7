use Rattle.pool_config.proofs.Nodes.{two}
use Rattle.pool_config.proofs.write.write_user.Goals as goal

pub returns : goal.returns
returns c = two _ _ _ _ _ (rw c.as_str-name.ensures at c.in_ok-write.ensures.bytes) (rw c.as_str-verifier.ensures at c.in_ok-write-2.ensures.bytes)

use Rattle.pool_config.proofs.Nodes.{four}
use Rattle.pool_config.proofs.write.write_sessions.Goals as goal

pub returns : goal.returns
returns c = four _ _ _ _ _ _ _ _ _ _ _ c.in_ok-write_unless.ensures c.in_ok-write_unless-2.ensures c.in_ok-write_unless-3.ensures c.in_ok-write_if_on.ensures c.in_ok-write_if_on-2.ensures

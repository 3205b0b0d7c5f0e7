use Rattle.pool_config.proofs.Nodes.{four}
use Rattle.pool_config.proofs.write.write_rest.Goals as goal

pub returns : goal.returns
returns c = four _ _ _ _ _ _ _ _ _ _ _ (rw c.as_str-listen.ensures at c.in_ok-write.ensures.bytes) c.in_ok-write-2.ensures.bytes c.in_ok-write-3.ensures.bytes
    (rw c.truth_word-balance.ensures at c.in_ok-write-4.ensures.bytes) (rw c.truth_word-per_statement.ensures at c.in_ok-write-5.ensures.bytes)

use Rattle.pool_config.proofs.Writing.{says_if}
use Rattle.pool_config.proofs.write.write_config.Goals as goal

pub returns-clause-read_back : goal.returns-clause-read_back
returns-clause-read_back c = says_if c.args.config.now c.written.result c.requires c.written.ensures

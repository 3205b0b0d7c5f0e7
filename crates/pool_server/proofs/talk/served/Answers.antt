use Rattle.pool_server.proofs.Talking.{as_other}
use Rattle.pool_server.proofs.talk.served.Goals as goal

pub returns-in_default : goal.returns-in_default
returns-in_default c = as_other c.args.body c.in_default.not-Recover

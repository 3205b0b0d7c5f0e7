use Rattle.std.proofs.Common.{refl}
use Rattle.pool_server.proofs.Talking.{goes_by}
use Rattle.pool_server.proofs.talk.behind.Goals as goal

pub returns-in_default-clause-passing : goal.returns-in_default-clause-passing
returns-in_default-clause-passing c = goes_by c.args.body.now c.in_default.not-Leave

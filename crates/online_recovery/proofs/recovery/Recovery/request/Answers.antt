use Rattle.online_recovery.proofs.Calls.{want_leaves}
use Rattle.online_recovery.proofs.recovery.Recovery.request.Goals as goal

pub returns-clause-leaves : goal.returns-clause-leaves
returns-clause-leaves c = want_leaves c.request.result c.args.self.now.standing.due c.request.ensures.want

use Rattle.std.proofs.Common.{◌∙◌}
use Rattle.online_recovery.proofs.Calls.{replied_is}
use Rattle.online_recovery.proofs.recovery.Recovery.reply.Goals as goal

pub returns-clause-rest : goal.returns-clause-rest
returns-clause-rest c = c.reply.ensures.rest ∙ replied_is c.args.self.now.standing _ _

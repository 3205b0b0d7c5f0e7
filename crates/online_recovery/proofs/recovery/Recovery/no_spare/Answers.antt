use Rattle.std.proofs.Common.{◌∙◌, inr}
use Rattle.online_recovery.proofs.Calls.{replied_is, starting}
use Rattle.online_recovery.proofs.recovery.Recovery.no_spare.Goals as goal

pub returns-clause-may : goal.returns-clause-may
returns-clause-may c = inr (starting c.args.self.now.standing.held c.args.self.now.standing.due c.requires, c.reply_no_spare.ensures.outcome, c.reply_no_spare.ensures.status)

pub returns-clause-rest : goal.returns-clause-rest
returns-clause-rest c = c.reply_no_spare.ensures.rest ∙ replied_is c.args.self.now.standing _ _

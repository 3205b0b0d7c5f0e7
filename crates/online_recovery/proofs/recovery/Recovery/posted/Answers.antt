use Rattle.std.proofs.Common.{◌∙◌}
use Rattle.online_recovery.proofs.Calls.{posted_is}
use Rattle.online_recovery.proofs.recovery.Recovery.posted.Goals as goal

pub returns : goal.returns
returns c = λ b request. c.posted.ensures ∙ posted_is c.args.self.now.standing b request

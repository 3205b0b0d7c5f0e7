use Rattle.std.proofs.Common.{◌∙◌}
use Rattle.online_recovery.proofs.Calls.{begun_is}
use Rattle.online_recovery.proofs.recovery.Recovery.start.Goals as goal

pub returns : goal.returns
returns c = λ moment. c.begin.ensures ∙ begun_is c.args.self.now.standing c.args.number moment

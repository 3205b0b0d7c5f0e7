use Rattle.std.proofs.Common.{◌∙◌}
use Rattle.online_recovery.proofs.Calls.{ended_is}
use Rattle.online_recovery.proofs.recovery.Recovery.end.Goals as goal

pub returns : goal.returns
returns c = c.restart.ensures ∙ ended_is c.args.self.now.standing

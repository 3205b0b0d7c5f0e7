use Rattle.std.proofs.Common.{◌∙◌}
use Rattle.online_recovery.proofs.Calls.{faulted_is}
use Rattle.online_recovery.proofs.recovery.Recovery.backend_lost.Goals as goal

pub returns : goal.returns
returns c = c.faulted.ensures ∙ faulted_is c.args.self.now.standing c.args.b c.args.before c.args.after

use Rattle.std.proofs.Common.{◌∙◌}
use Rattle.online_recovery.proofs.Calls.{leave_is}
use Rattle.online_recovery.proofs.recovery.Recovery.give_up.Goals as goal

pub returns : goal.returns
returns c = λ moment. c.left.ensures ∙ leave_is c.args.self.now.standing moment

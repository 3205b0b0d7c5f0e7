use Rattle.std.proofs.Common.{◌∙◌}
use Rattle.online_recovery.proofs.Calls.{swapped_is}
use Rattle.online_recovery.proofs.recovery.Recovery.swapped.Goals as goal

pub returns : goal.returns
returns c = λ b. c.swapped.ensures ∙ swapped_is c.args.self.now.standing b

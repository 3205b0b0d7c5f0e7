use Rattle.std.proofs.Common.{◌∙◌}
use Rattle.online_recovery.proofs.Calls.{taken_is}
use Rattle.online_recovery.proofs.recovery.Recovery.backend_answer.Goals as goal

pub returns : goal.returns
returns c = c.taken.ensures ∙ taken_is c.args.self.now.standing c.args.b c.args.answer

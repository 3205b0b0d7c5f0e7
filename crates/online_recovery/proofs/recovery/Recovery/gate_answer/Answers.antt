use Rattle.std.proofs.Common.{◌∙◌}
use Rattle.online_recovery.proofs.Calls.{answered_is}
use Rattle.online_recovery.proofs.recovery.Recovery.gate_answer.Goals as goal

pub returns : goal.returns
returns c = c.gate_answered.ensures ∙ answered_is c.args.self.now.standing c.args.answer

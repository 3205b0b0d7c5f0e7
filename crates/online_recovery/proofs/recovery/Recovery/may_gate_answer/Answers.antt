use Rattle.online_recovery.proofs.Testing.{answered_told}
use Rattle.online_recovery.proofs.recovery.Recovery.may_gate_answer.Goals as goal

pub returns : goal.returns
returns c = rw c.is_answered.ensures (answered_told c.args.self.now.standing c.args.answer.now)

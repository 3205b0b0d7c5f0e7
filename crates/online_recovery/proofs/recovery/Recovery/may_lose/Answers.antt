use Rattle.online_recovery.proofs.Testing.{lost_told}
use Rattle.online_recovery.proofs.recovery.Recovery.may_lose.Goals as goal

pub returns : goal.returns
returns c = rw c.is_lost.ensures (lost_told c.args.self.now.standing c.args.b c.args.before c.args.after)

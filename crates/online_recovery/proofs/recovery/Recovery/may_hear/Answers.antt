use Rattle.online_recovery.proofs.Testing.{heard_if}
use Rattle.online_recovery.proofs.recovery.Recovery.may_hear.Goals as goal

pub returns : goal.returns
returns c = heard_if c.is_heard.result c.args.self.now.standing c.args.b c.args.answer.now c.is_heard.ensures

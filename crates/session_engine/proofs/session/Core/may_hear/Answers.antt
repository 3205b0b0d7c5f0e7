use Rattle.session_engine.specs.Meaning.{machine_of}
use Rattle.session_engine.proofs.Testing.{heard_told}
use Rattle.session_engine.proofs.session.Core.may_hear.Goals as goal

pub returns : goal.returns
returns c = rw c.is_heard.ensures (heard_told (machine_of c.args.self.now.standing) c.args.b c.args.answer.now)

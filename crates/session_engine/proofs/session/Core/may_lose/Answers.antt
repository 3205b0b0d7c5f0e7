use Rattle.session_engine.specs.Meaning.{machine_of}
use Rattle.session_engine.proofs.Testing.{lost_told}
use Rattle.session_engine.proofs.session.Core.may_lose.Goals as goal

pub returns : goal.returns
returns c = rw c.is_lost.ensures (lost_told (machine_of c.args.self.now.standing) c.args.b c.args.before c.args.after)

use Rattle.session_engine.specs.Meaning.{machine_of}
use Rattle.session_engine.proofs.Testing.{answered_told}
use Rattle.session_engine.proofs.session.Core.may_gate_answer.Goals as goal

pub returns : goal.returns
returns c = rw c.is_answered.ensures (answered_told (machine_of c.args.self.now.standing) c.args.answer.now)

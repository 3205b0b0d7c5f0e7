use Rattle.pool_server.proofs.Entries.{one_more}
use Rattle.pool_server.proofs.Granted.{made_leaves}
use Rattle.tcp_server.proofs.Noted.{noted_more}
use Rattle.tcp_server.proofs.pass_at.PassAtGatePass.step.Goals as goal

pub returns-clause-leaves : goal.returns-clause-leaves
returns-clause-leaves g c = made_leaves _ _ _ _ c.step-answer.ensures.call

pub returns-clause-calls : goal.returns-clause-calls
returns-clause-calls g c = one_more c.args.self.now.pass.mine c.step-answer.new.pass.mine c.args.self.now.pass.number c.args.call c.step-answer.result c.step-answer.ensures.call.mine

pub invariant_of-self-clause-noted : goal.invariant_of-self-clause-noted
invariant_of-self-clause-noted g c = noted_more c.args.self.now.notes c.note.new.notes c.args.self.now.pass.mine c.step-answer.new.pass.mine c.args.self.now.pass.number c.args.call c.step-answer.result c.step-answer.ensures.call.mine c.note.ensures.kept c.note.ensures.noted c.args.self.now.noted

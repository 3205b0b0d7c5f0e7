use Rattle.session_engine.specs.Meaning.{session_of, machine_of}
use Rattle.session_engine.proofs.Calls.{parting, wanted}
use Rattle.session_engine.proofs.Giving.{want_may_leave}
use Rattle.session_engine.proofs.session.Core.cause.Goals as goal

pub cause-requires : goal.cause-requires
cause-requires c = parting (session_of c.args.self.now.standing) c.args.self.now.standing.due c.requires

pub returns-clause-want : goal.returns-clause-want
returns-clause-want c = wanted c.cause.result (machine_of c.args.self.now.standing) c.args.self.now.sound c.cause.ensures.want

pub returns-clause-leaves : goal.returns-clause-leaves
returns-clause-leaves c =
    let m = machine_of c.args.self.now.standing in
    want_may_leave c.cause.result m c.args.self.now.classed (wanted c.cause.result m c.args.self.now.sound c.cause.ensures.want)

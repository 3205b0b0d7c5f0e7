use Rattle.session_engine.specs.Meaning.{session_of, machine_of}
use Rattle.session_engine.proofs.Calls.{posting, wanted}
use Rattle.session_engine.proofs.Giving.{want_may_leave}
use Rattle.session_engine.proofs.session.Core.request.Goals as goal

pub request-requires : goal.request-requires
request-requires c = posting (session_of c.args.self.now.standing) c.args.self.now.standing.due c.requires

pub returns-clause-want : goal.returns-clause-want
returns-clause-want c = wanted c.request.result (machine_of c.args.self.now.standing) c.args.self.now.sound c.request.ensures.want

pub returns-clause-leaves : goal.returns-clause-leaves
returns-clause-leaves c =
    let m = machine_of c.args.self.now.standing in
    want_may_leave c.request.result m c.args.self.now.classed (wanted c.request.result m c.args.self.now.sound c.request.ensures.want)

use Rattle.std.proofs.Common.{refl}
use Rattle.session_engine.specs.Cores.{machine_in}
use Rattle.session_wire.specs.Shown.{shown}
use Rattle.pool_server.proofs.Stepping.{goes_ended, parted, unbidden}
use Rattle.pool_server.proofs.session.Session.ended.Goals as goal

pub returns-in-No-clause-leads : goal.returns-in-No-clause-leads
returns-in-No-clause-leads g c = λ w s. unbidden w s (machine_in c.args.self.now.work.core) (shown c.args.self.now.talk.wire) c.args.self.now.parting c.args.is_cut c.unbidden.result c.in-No.is c.requires c.unbidden.ensures

pub returns-in-Closing-clause-went : goal.returns-in-Closing-clause-went
returns-in-Closing-clause-went g c = goes_ended (machine_in c.args.self.now.work.core) (machine_in c.end.new.self) (shown c.args.self.now.talk.wire) c.args.self.now.parting c.lost_by.result c.requires c.end.ensures

pub returns-in-Closing-clause-leads : goal.returns-in-Closing-clause-leads
returns-in-Closing-clause-leads g c = parted (machine_in c.args.self.now.work.core) (machine_in c.end.new.self) (shown c.args.self.now.talk.wire) c.args.self.now.parting c.lost_by.result c.lost_by.ensures c.requires c.end.ensures

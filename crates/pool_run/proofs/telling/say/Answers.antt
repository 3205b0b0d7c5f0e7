use Rattle.pool_run.proofs.Ending.{said}
use Rattle.pool_run.proofs.telling.say.Goals as goal

pub returns-in-Ok : goal.returns-in-Ok
returns-in-Ok g c = said c.args.status c.args.line.now (g.O.Sink.taken c.args.out.now) (g.O.Sink.taken c.write_all.new.out) (g.O.Sink.fault_count c.args.out.now) (g.O.Sink.fault_count c.write_all.new.out) c.requires c.in-Ok.ensures.all

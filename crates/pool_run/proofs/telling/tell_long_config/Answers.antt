use Rattle.pool_run.specs.Ends.{config_too_long}
use Rattle.pool_run.proofs.Ending.{said_refused}
use Rattle.pool_run.proofs.telling.tell_long_config.Goals as goal

pub returns : goal.returns
returns g c = λ stores. said_refused c.say.result config_too_long (g.O.Sink.taken c.args.out.now) (g.O.Sink.taken c.say.new.out) (g.O.Sink.fault_count c.args.out.now) (g.O.Sink.fault_count c.say.new.out) stores stores c.say.ensures

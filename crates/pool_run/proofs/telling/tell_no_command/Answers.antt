use Rattle.pool_run.proofs.Ending.{said_no_command}
use Rattle.pool_run.proofs.telling.tell_no_command.Goals as goal

pub returns : goal.returns
returns g c = λ stores. said_no_command c.say.result (g.O.Sink.taken c.args.out.now) (g.O.Sink.taken c.say.new.out) (g.O.Sink.fault_count c.args.out.now) (g.O.Sink.fault_count c.say.new.out) stores stores c.say.ensures

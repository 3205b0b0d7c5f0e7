use Rattle.pool_server.proofs.MachineLaws.{run_of}
use Rattle.pool_server.proofs.laws.deeds_are_a_run.Goals as goal

pub returns : goal.returns
returns c = record { run = run_of }

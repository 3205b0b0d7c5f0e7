use Rattle.pool_run.specs.Ends.{configured}
use Rattle.pool_run.proofs.Ending.{config_fault}
use Rattle.pool_run.proofs.asking.ask_config.Goals as goal

pub returns-in-Err-clause-ends : goal.returns-in-Err-clause-ends
returns-in-Err-clause-ends g c = λ s o e.
    config_fault c.in-Err.fault (g.F.Files.contents c.args.files.now) (g.F.Files.fault_count c.args.files.now) c.args.command.now c.args.text.now s o c.in-Err.ensures.says c.in-Err.ensures.found e.0 e.1.memory e.1.refuses

pub returns-in-Ok-clause-ends : goal.returns-in-Ok-clause-ends
returns-in-Ok-clause-ends g c = λ s o e. configured c.in-Ok.config c.in-Ok.ensures.says (c.ask_rest.ensures.ends s o e)

use Rattle.pool_run.specs.Ends.{schema_stands}
use Rattle.pool_run.proofs.Ending.{schema_stop}
use Rattle.pool_run.proofs.asking.ask_schema.Goals as goal

pub returns-in-Err-clause-ends : goal.returns-in-Err-clause-ends
returns-in-Err-clause-ends g c = λ s o e.
    schema_stop c.in-Err.stop (g.F.Files.contents c.args.files.now) (g.F.Files.fault_count c.args.files.now) c.args.command.now c.args.config c.args.schema.now s o c.in-Err.ensures.answer e.0 e.1

pub returns-in-Ok-clause-ends : goal.returns-in-Ok-clause-ends
returns-in-Ok-clause-ends g c = λ s o e.
    let tables = c.in-Ok.catalogue in
    schema_stands tables c.in-Ok.ensures.answer (c.ask_script-lines.ensures.ends s o (c.with_tables.ensures.ends s o e))

use Rattle.pool_run.specs.Ends.{schema_unread}
use Rattle.pool_run.proofs.Stages.{unread_stops}
use Rattle.pool_run.proofs.Ending.{rest_read}
use Rattle.pool_run.proofs.asking.ask_rest.Goals as goal

pub returns-in-Err-clause-ends : goal.returns-in-Err-clause-ends
returns-in-Err-clause-ends g c = λ s o e.
    let faults = g.F.Files.fault_count in
    schema_unread e.0 (unread_stops c.in-Err.status s (faults c.args.files.now) (faults c.read_schema_text.new.files) o c.in-Err.ensures.fault e.1)

pub returns-in-Ok-clause-ends : goal.returns-in-Ok-clause-ends
returns-in-Ok-clause-ends g c = λ s o e.
    let contents = g.F.Files.contents in
    let faults = g.F.Files.fault_count in
    rest_read (contents c.args.files.now) (contents c.read_schema_text.new.files) (faults c.args.files.now) (faults c.read_schema_text.new.files) (faults c.ask_schema.new.files) c.args.command.now c.args.config c.in-Ok.schema s o
    c.in-Ok.ensures.kept c.in-Ok.ensures.later c.in-Ok.ensures.read (c.ask_schema.ensures.ends s o e)

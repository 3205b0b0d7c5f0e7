use Rattle.pool_run.specs.Ends.{script_read, script_unread}
use Rattle.pool_run.proofs.Stages.{unread_stops}
use Rattle.pool_run.proofs.asking.ask_script.Goals as goal

pub returns-in-Err-clause-ends : goal.returns-in-Err-clause-ends
returns-in-Err-clause-ends g c = λ s o e.
    let faults = g.F.Files.fault_count in
    script_unread e.0 (unread_stops c.in-Err.status s (faults c.args.files.now) (faults c.read_script_text.new.files) o c.in-Err.ensures.fault e.1)

pub returns-in-Ok-clause-ends : goal.returns-in-Ok-clause-ends
returns-in-Ok-clause-ends g c = λ s o e. script_read c.in-Ok.script c.in-Ok.ensures.read (c.ask_lines.ensures.ends s o e)

use Rattle.std.specs.Prelude.{Err}
use Rattle.pool_run.specs.Ends.{configured, ConfigEnds, RestEnds}
use Rattle.pool_run.specs.Plan.{Leads}
use Rattle.pool_run.proofs.Ending.{config_fault}
use Rattle.pool_run.proofs.ServingLemmas.{for_err}
use Rattle.pool_run.proofs.serving.read_by.Goals as goal

pub returns-in-Err-clause-ends : goal.returns-in-Err-clause-ends
returns-in-Err-clause-ends g c = λ s o e.
    config_fault c.in-Err.fault (g.F.Files.contents c.args.files.now) (g.F.Files.fault_count c.args.files.now) c.args.command.now c.args.text.now s o c.in-Err.ensures.says c.in-Err.ensures.found e.0 e.1.memory e.1.refuses

pub returns-in-Ok-clause-ends : goal.returns-in-Ok-clause-ends
returns-in-Ok-clause-ends g c =
    let contents = g.F.Files.contents c.args.files.now in
    let faults = g.F.Files.fault_count in
    let command = c.args.command.now in
    for_err c.read_with.result (λ stop. Leads (Err stop) (RestEnds contents (faults c.args.files.now) (faults c.read_with.new.files) command c.in-Ok.config))
    (λ stop. Leads (Err stop) (ConfigEnds contents (faults c.args.files.now) (faults c.read_with.new.files) command c.args.text.now))
    (λ stop ends s o e. configured c.in-Ok.config c.in-Ok.ensures.says (ends s o e))
    c.read_with.ensures.ends

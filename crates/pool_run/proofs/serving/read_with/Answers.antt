use Rattle.std.proofs.Common.{ℕ, List}
use Rattle.std.specs.Prelude.{Err}
use Rattle.pool_base.specs.Outside.{Told}
use Rattle.pool_command.specs.declared.command.Command.{Command}
use Rattle.pool_run.specs.Ends.{RestEnds, SchemaEnds}
use Rattle.pool_run.specs.Plan.{Leads}
use Rattle.pool_run.specs.Schemas.{IsSchemaRead}
use Rattle.pool_run.specs.Serving.{HasTables}
use Rattle.pool_run.proofs.Ending.{rest_read}
use Rattle.pool_run.proofs.ServingLemmas.{for_ok, for_err, tables_of}
use Rattle.pool_run.proofs.serving.read_with.Goals as goal

pub returns-in-Ok-clause-tables : goal.returns-in-Ok-clause-tables
returns-in-Ok-clause-tables g c =
    let contents = g.F.Files.contents c.args.files.now in
    let command = c.args.command.now in
    for_ok c.served_of.result (λ served. IsSchemaRead c.in-Ok.schema served.tables) (λ served. HasTables command contents served.tables)
    (λ served is. tables_of command contents c.in-Ok.schema served.tables c.in-Ok.ensures.read is)
    c.served_of.ensures.tables

pub returns-in-Ok-clause-ends : goal.returns-in-Ok-clause-ends
returns-in-Ok-clause-ends g c =
    let contents = g.F.Files.contents in
    let faults = g.F.Files.fault_count in
    let later = c.read_schema_text.new.files in
    let command = c.args.command.now in
    let config = c.args.config in
    for_err c.served_of.result (λ stop. (told : List ℕ → Told) (before : ℕ) (of : Command) → Leads (Err stop) (SchemaEnds told before before of config c.in-Ok.schema))
    (λ stop. Leads (Err stop) (RestEnds (contents c.args.files.now) (faults c.args.files.now) (faults later) command config))
    (λ stop ends s o e.
    rest_read (contents c.args.files.now) (contents later) (faults c.args.files.now) (faults later) (faults later) command config c.in-Ok.schema s o
    c.in-Ok.ensures.kept c.in-Ok.ensures.later c.in-Ok.ensures.read (ends (contents later) (faults later) command s o e))
    c.served_of.ensures.ends

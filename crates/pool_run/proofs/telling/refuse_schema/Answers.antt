use Rattle.std.proofs.Common.{sym, subst}
use Rattle.pool_run.specs.declared.schemas.SchemaStop.{SchemaStop}
use Rattle.pool_run.specs.Ends.{IsSchemaRefusal, outside}
use Rattle.pool_run.proofs.telling.refuse_schema.Goals as goal

pub returns-in-BadLine : goal.returns-in-BadLine
returns-in-BadLine g c = λ stores.
    let taken = g.O.Sink.taken in
    let count = g.O.Sink.fault_count in
    subst (λ (stop : SchemaStop). IsSchemaRefusal stop c.refuse_schema_line.result (outside (count c.args.out.now) (count c.refuse_schema_line.new.out) (taken c.args.out.now) (taken c.refuse_schema_line.new.out) stores stores)) (sym c.in-BadLine.is)
    (c.refuse_schema_line.ensures stores)

use Rattle.std.proofs.Common.{sym, subst}
use Rattle.pool_run.specs.declared.scripts.ScriptStop.{ScriptStop}
use Rattle.pool_run.specs.Ends.{outside}
use Rattle.pool_run.specs.Plan.{IsScriptRefusal}
use Rattle.pool_run.proofs.telling.refuse_script.Goals as goal

pub returns-in-BadLine : goal.returns-in-BadLine
returns-in-BadLine g c = λ stores.
    let taken = g.O.Sink.taken in
    let count = g.O.Sink.fault_count in
    subst (λ (stop : ScriptStop). IsScriptRefusal stop c.refuse_line.result (outside (count c.args.out.now) (count c.refuse_line.new.out) (taken c.args.out.now) (taken c.refuse_line.new.out) stores stores)) (sym c.in-BadLine.is)
    (c.refuse_line.ensures stores)

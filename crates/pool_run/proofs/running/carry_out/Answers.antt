use Rattle.std.proofs.Common.{refl, sym, subst, map}
use Rattle.std.specs.Prelude.{Result, IfOk}
use Rattle.pool_run.specs.Ends.{outside}
use Rattle.pool_run.specs.Plan.{IsSound, PlanEnds}
use Rattle.pool_run.specs.declared.plan.Plan.{Plan}
use Rattle.pool_run.specs.declared.plan.Stop.{Stop}
use Rattle.pool_run.proofs.running.carry_out.Goals as goal

pub run_plan-requires-clause-sound : goal.run_plan-requires-clause-sound
run_plan-requires-clause-sound g c = subst (λ (r : Result Plan Stop). IfOk r IsSound) c.in-Ok.is c.requires.sound

pub returns-in-Ok : goal.returns-in-Ok
returns-in-Ok g c =
    let taken = g.O.Sink.taken in
    let count = g.O.Sink.fault_count in
    let meaning = g.B.Backend.meaning in
    let o = outside (count c.args.out.now) (count c.run_plan.new.out) (taken c.args.out.now) (taken c.run_plan.new.out) (map meaning c.args.shelf.now.items) (map meaning c.run_plan.new.shelf.items) in
    subst (λ (r : Result Plan Stop). PlanEnds r c.run_plan.result o) (sym c.in-Ok.is) c.run_plan.ensures

pub returns-in-Err : goal.returns-in-Err
returns-in-Err g c =
    let taken = g.O.Sink.taken in
    let count = g.O.Sink.fault_count in
    let stores = map g.B.Backend.meaning c.args.shelf.now.items in
    let o = outside (count c.args.out.now) (count c.tell.new.out) (taken c.args.out.now) (taken c.tell.new.out) stores stores in
    subst (λ (r : Result Plan Stop). PlanEnds r c.tell.result o) (sym c.in-Err.is) (refl, c.tell.ensures stores)

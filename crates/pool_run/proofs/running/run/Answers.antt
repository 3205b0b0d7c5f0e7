use Rattle.std.proofs.Common.{map}
use Rattle.pool_run.specs.Ends.{outside}
use Rattle.pool_run.proofs.running.run.Goals as goal

pub returns : goal.returns
returns g c =
    let taken = g.O.Sink.taken in
    let count = g.O.Sink.fault_count in
    let meaning = g.B.Backend.meaning in
    let o = outside (count c.args.out.now) (count c.carry_out-status.new.out) (taken c.args.out.now) (taken c.carry_out-status.new.out) (map meaning c.args.shelf.now.items) (map meaning c.carry_out-status.new.shelf.items) in
    record { status = c.carry_out-status.result; is = c.code.ensures; ends = c.ask-asked.ensures.ends c.carry_out-status.result o c.carry_out-status.ensures }

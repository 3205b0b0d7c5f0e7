use Rattle.std.proofs.Common.{map}
use Rattle.pgproto.specs.Line.{line_of}
use Rattle.backend_trait.specs.Rows.{no_rows}
use Rattle.pool_run.proofs.Ending.{none_played, ends_from}
use Rattle.pool_run.proofs.running.run_script.Goals as goal

pub returns-in_default : goal.returns-in_default
returns-in_default g c = none_played c.args.catalogue.now (map line_of c.args.script.now) no_rows (g.O.Sink.taken c.args.out.now)

pub returns-in-Err : goal.returns-in-Err
returns-in-Err g c = none_played c.args.catalogue.now (map line_of c.args.script.now) no_rows (g.O.Sink.taken c.args.out.now)

pub returns-in-Ok-prepare_first : goal.returns-in-Ok-prepare_first
returns-in-Ok-prepare_first g c =
    let taken = g.O.Sink.taken in
    let count = g.O.Sink.fault_count in
    let meaning = g.B.Backend.meaning in
    let ran = c.run_prepared in
    ends_from c.args.count c.args.catalogue.now (map line_of c.args.script.now) ran.result (count c.args.out.now) (count ran.new.out) (taken c.args.out.now) (taken ran.new.out) _ (map meaning c.args.shelf.now.items)
    (map meaning ran.new.shelf.items) ran.ensures

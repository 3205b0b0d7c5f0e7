use Rattle.std.proofs.Common.{◌≡◌, map, take, sym, subst}
use Rattle.pgproto.specs.Line.{line_of}
use Rattle.backend_trait.specs.Rows.{no_rows}
use Rattle.session_core.specs.Statements.{primary_rows, primary_tables}
use Rattle.pool_run.specs.Shelf.{AreBackends}
use Rattle.pool_run.proofs.Ending.{ends_from}
use Rattle.pool_run.proofs.Shelves.{backends_begin, tables_at_first, none_at_first}
use Rattle.pool_run.proofs.running.run_prepared.Goals as goal

pub play_over-status-requires-clause-ready : goal.play_over-status-requires-clause-ready
play_over-status-requires-clause-ready g c =
    let same : c.replace-held.result.items ≡ c.args.shelf.now.items = (let e = c.replace-held.ensures.value in cc) in
    let r = c.requires in
    subst (λ l. AreBackends g.B.Backend.meaning g.B.Backend.is_honest g.B.Backend.is_prompt g.B.Backend.is_steady c.args.count (take c.args.count l)) (sym same)
    (backends_begin g.B.Backend.meaning g.B.Backend.is_honest g.B.Backend.is_prompt g.B.Backend.is_steady c.args.shelf.now.items c.args.count c.args.catalogue.now r.some r.few r.enough r.each)

pub play_over-status-requires-clause-tables : goal.play_over-status-requires-clause-tables
play_over-status-requires-clause-tables g c =
    let same : c.replace-held.result.items ≡ c.args.shelf.now.items = (let e = c.replace-held.ensures.value in cc) in
    subst (λ l. primary_tables (map g.B.Backend.meaning (take c.args.count l)) ≡ c.args.catalogue.now) (sym same)
    (tables_at_first g.B.Backend.meaning g.B.Backend.is_honest g.B.Backend.is_prompt g.B.Backend.is_steady c.args.shelf.now.items c.args.count c.args.catalogue.now c.requires.some c.requires.enough c.requires.each)

pub play_over-status-requires-clause-none : goal.play_over-status-requires-clause-none
play_over-status-requires-clause-none g c =
    let same : c.replace-held.result.items ≡ c.args.shelf.now.items = (let e = c.replace-held.ensures.value in cc) in
    subst (λ l. primary_rows (map g.B.Backend.meaning (take c.args.count l)) ≡ no_rows) (sym same)
    (none_at_first g.B.Backend.meaning g.B.Backend.is_honest g.B.Backend.is_prompt g.B.Backend.is_steady c.args.shelf.now.items c.args.count c.args.catalogue.now c.requires.some c.requires.enough c.requires.each)

pub returns : goal.returns
returns g c =
    let taken = g.O.Sink.taken in
    let count = g.O.Sink.fault_count in
    let meaning = g.B.Backend.meaning in
    ends_from c.args.count c.args.catalogue.now (map line_of c.args.script.now) c.play_over-status.result (count c.args.out.now) (count c.play_over-status.new.out) (taken c.args.out.now) (taken c.play_over-status.new.out)
    (map meaning c.replace-held.result.items) (map meaning c.args.shelf.now.items) (map meaning c.play_over-status.new.backends.shelf.items) c.play_over-status.ensures

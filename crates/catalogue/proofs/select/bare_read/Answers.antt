use Rattle.std.proofs.lemmas.Result.{err_from_is_err_and}
use Rattle.typed_sql.specs.Meaning.{scope_of}
use Rattle.catalogue.proofs.SelectLemmas.{bare_stops, bare_gives}
use Rattle.catalogue.proofs.select.bare_read.Goals as goal

pub returns-in_err-list : goal.returns-in_err-list
returns-in_err-list c =
    let p = err_from_is_err_and c.from_residual.result c.from_residual.ensures.1 in
    rw (p.1, p.2) (bare_stops c.args.parameters c.args.select.now (scope_of c.alone.result) c.alone.ensures
    c.args.known.now.items c.in_err-list.field-0.0 c.list_of.new.known.items c.list_of.new.known.items c.in_err-list.ensures)

pub returns : goal.returns
returns c =
    bare_gives c.args.parameters c.args.select.now (scope_of c.alone.result) c.alone.ensures c.args.known.now.items
    c.in_ok-list.list c.list_of.new.known.items c.new.result c.in_ok-columns.columns
    c.in_ok-list.ensures c.new.ensures (rw c.as_slice-exprs.ensures at c.in_ok-columns.ensures)

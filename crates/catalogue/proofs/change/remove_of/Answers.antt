use Rattle.std.proofs.lemmas.Result.{err_from_is_err_and}
use Rattle.typed_sql.specs.Meaning.{scope_of}
use Rattle.catalogue.proofs.InsertLemmas.{remove_stops, remove_gives}
use Rattle.catalogue.proofs.change.remove_of.Goals as goal

pub returns-in_err-filter : goal.returns-in_err-filter
returns-in_err-filter c =
    let p = err_from_is_err_and c.from_residual.result c.from_residual.ensures.1 in
    rw (p.1, p.2) (remove_stops c.args.parameters c.args.delete.now (c.args.table.0, c.args.table.1.now) (scope_of c.over.result) c.over.ensures
    c.args.known.now.items c.in_err-filter.field-0.0 c.filter_of.new.known.items c.filter_of.new.known.items c.in_err-filter.ensures)

pub returns : goal.returns
returns c =
    rw c.new.ensures (remove_gives c.args.parameters c.args.delete.now (c.args.table.0, c.args.table.1.now) (scope_of c.over.result) c.over.ensures
    c.args.known.now.items c.in_ok-filter.filter c.filter_of.new.known.items c.in_ok-filter.ensures)

use Rattle.std.proofs.lemmas.Result.{err_from_is_err_and}
use Rattle.typed_sql.specs.Meaning.{scope_of}
use Rattle.catalogue.proofs.SelectLemmas.{list_stops, filter_stops, ends_stop, read_gives}
use Rattle.catalogue.proofs.select.read_from.Goals as goal

pub returns-in_err-list : goal.returns-in_err-list
returns-in_err-list c =
    let p = err_from_is_err_and c.from_residual.result c.from_residual.ensures.1 in
    rw (p.1, p.2) (list_stops c.args.parameters c.args.select.now (c.args.table.0, c.args.table.1.now) (scope_of c.over.result) c.over.ensures
    c.args.known.now.items
    c.in_err-list.field-0.0 c.list_of.new.known.items c.list_of.new.known.items (rw c.as_slice-columns.ensures at c.in_err-list.ensures))

pub returns-in_err-filter : goal.returns-in_err-filter
returns-in_err-filter c =
    let p = err_from_is_err_and c.from_residual-in_err-filter.result c.from_residual-in_err-filter.ensures.1 in
    rw (p.1, p.2) (filter_stops c.args.parameters c.args.select.now (c.args.table.0, c.args.table.1.now) (scope_of c.over.result) c.over.ensures
    c.args.known.now.items
    c.in_ok-list.list c.list_of.new.known.items (rw c.as_slice-columns.ensures at c.in_ok-list.ensures)
    c.in_err-filter.field-0.0 c.filter_of.new.known.items c.filter_of.new.known.items c.in_err-filter.ensures)

pub returns-in-Err : goal.returns-in-Err
returns-in-Err c =
    ends_stop c.args.parameters c.args.select.now (c.args.table.0, c.args.table.1.now) (scope_of c.over.result) c.over.ensures
    c.args.known.now.items
    c.in_ok-list.list c.list_of.new.known.items (rw c.as_slice-columns.ensures at c.in_ok-list.ensures)
    c.in_ok-filter.filter c.filter_of.new.known.items c.in_ok-filter.ensures
    c.in-Err.fault c.ends_of.new.known.items c.ends_of.new.known.items c.in-Err.ensures

pub returns-in_ok-read-in-Ok : goal.returns-in_ok-read-in-Ok
returns-in_ok-read-in-Ok c =
    read_gives c.args.parameters c.args.select.now (c.args.table.0, c.args.table.1.now) (scope_of c.over.result) c.over.ensures
    c.args.known.now.items
    c.in_ok-list.list c.list_of.new.known.items (rw c.as_slice-columns.ensures at c.in_ok-list.ensures)
    c.in_ok-filter.filter c.filter_of.new.known.items c.in_ok-filter.ensures
    c.in-Ok.ends c.ends_of.new.known.items c.in_ok-read-in-Ok.read c.in-Ok.ensures c.in_ok-read-in-Ok.ensures

use Rattle.std.proofs.lemmas.Result.{err_from_is_err_and}
use Rattle.typed_sql.specs.Meaning.{scope_of}
use Rattle.catalogue.proofs.SelectLemmas.{order_stops, limit_stops, lock_stops, ends_give}
use Rattle.catalogue.proofs.select.ends_of.Goals as goal

pub returns-in_err-keys : goal.returns-in_err-keys
returns-in_err-keys c =
    let p = err_from_is_err_and c.from_residual.result c.from_residual.ensures.1 in
    rw (p.1, p.2) (order_stops (scope_of c.args.check.now.scope) c.args.select.now c.args.table.now
    c.is_count-count.result c.is_count-count.ensures c.args.known.now.items
    c.in_err-keys.field-0.0 c.args.known.now.items c.args.known.now.items (rw (c.as_slice-items.ensures, c.as_slice-kinds.ensures.value) at c.in_err-keys.ensures))

pub returns-in_err-limit : goal.returns-in_err-limit
returns-in_err-limit c =
    let p = err_from_is_err_and c.from_residual-in_err-limit.result c.from_residual-in_err-limit.ensures.1 in
    rw (p.1, p.2) (limit_stops (scope_of c.args.check.now.scope) c.args.select.now c.args.table.now
    c.is_count-count.result c.is_count-count.ensures c.args.known.now.items
    c.in_ok-keys.keys c.args.known.now.items (rw (c.as_slice-items.ensures, c.as_slice-kinds.ensures.value) at c.in_ok-keys.ensures)
    c.in_err-limit.field-0.0 c.limit_of.new.known.items c.limit_of.new.known.items c.in_err-limit.ensures)

pub returns-in-Err : goal.returns-in-Err
returns-in-Err c =
    lock_stops (scope_of c.args.check.now.scope) c.args.select.now c.args.table.now
    c.is_count-count.result c.is_count-count.ensures c.args.known.now.items
    c.in_ok-keys.keys c.args.known.now.items (rw (c.as_slice-items.ensures, c.as_slice-kinds.ensures.value) at c.in_ok-keys.ensures)
    c.in_ok-limit.limit c.limit_of.new.known.items c.in_ok-limit.ensures
    c.in-Err.fault c.limit_of.new.known.items c.in-Err.ensures

pub returns-in-Ok : goal.returns-in-Ok
returns-in-Ok c =
    ends_give (scope_of c.args.check.now.scope) c.args.select.now c.args.table.now
    c.is_count-count.result c.is_count-count.ensures c.args.known.now.items
    c.in_ok-keys.keys c.args.known.now.items (rw (c.as_slice-items.ensures, c.as_slice-kinds.ensures.value) at c.in_ok-keys.ensures)
    c.in_ok-limit.limit c.limit_of.new.known.items c.in_ok-limit.ensures
    c.in_ok-order.order c.in-Ok.ensures c.in_ok-order.ensures

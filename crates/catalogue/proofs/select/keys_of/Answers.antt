use denote.Ref.{Bor}
use Rattle.std.proofs.Common.{ℕ, List, arith}
use Rattle.std.proofs.lemmas.Result.{err_from_is_err_and}
use Rattle.schema.specs.declared.catalogue.ColumnDef.{ColumnDef}
use Rattle.typed_sql.specs.Own.{column_meant}
use Rattle.typed_sql.specs.Meaning.{scope_of}
use Rattle.typed_sql.proofs.Chains.{each_next, each_stops, each_whole}
use Rattle.typed_sql.specs.Steps.{Gives}
use Rattle.typed_sql.proofs.Faults.{found_made}
use Rattle.catalogue.specs.declared.checked.OrderKey.{OrderKey}
use Rattle.catalogue.specs.Statements.{OrderOf, order_key}
use Rattle.catalogue.proofs.Finding.{told_stops}
use Rattle.catalogue.proofs.select.keys_of.Goals as goal

pub loop-item-preserved : goal.loop-item-preserved
loop-item-preserved c =
    each_next (OrderOf (scope_of c.args.check.now.scope)) c.args.order.now c.loop-item.item-index c.args.known.now c.args.known.now c.loop-item.keys
    c.item-item.result c.push.new.self (order_key c.item-item.result.falling (c.in_ok-found.found.0, c.in_ok-found.found.1.now)) c.args.known.now
    (omega arith) c.item-item.is c.loop-item.invariant
    (found_made (order_key c.item-item.result.falling)
    (column_meant (scope_of c.args.check.now.scope) c.item-item.result.qualifier c.item-item.result.column) c.args.known.now
    (c.in_ok-found.found.0, c.in_ok-found.found.1.now) c.in_ok-found.ensures)
    c.in_ok-push.ensures.ok

pub returns-in_err-found : goal.returns-in_err-found
returns-in_err-found c =
    let p = err_from_is_err_and c.from_residual.result c.from_residual.ensures.1 in
    rw (p.1, p.2) (each_stops (OrderOf (scope_of c.args.check.now.scope)) c.args.order.now c.loop-item.item-index c.args.known.now c.args.known.now
    c.loop-item.keys (λ (k : OrderKey). k) (λ (ks : List OrderKey). ks)
    c.item-item.result c.args.known.now c.args.known.now c.in_err-found.field-0.0 (omega arith) c.item-item.is c.loop-item.invariant
    (told_stops (λ (x : ℕ × Bor ColumnDef). (x.0, x.1.now)) (λ (x : ℕ × ColumnDef). Gives (order_key c.item-item.result.falling x)) (λ (k : OrderKey). k)
    (column_meant (scope_of c.args.check.now.scope) c.item-item.result.qualifier c.item-item.result.column) c.args.known.now c.args.known.now
    c.in_err-found.field-0.0 c.in_err-found.ensures))

pub returns : goal.returns
returns c =
    each_whole (OrderOf (scope_of c.args.check.now.scope)) c.args.order.now c.loop-item.item-index c.args.known.now c.args.known.now c.loop-item.keys
    (omega arith) c.loop-item.invariant

use Rattle.std.proofs.Common.{List, arith, refl, suc}
use Rattle.std.proofs.lemmas.Result.{err_from_is_err_and}
use Rattle.typed_sql.specs.declared.typed.TypedExpr.{TypedExpr}
use Rattle.typed_sql.specs.Meaning.{scope_of}
use Rattle.typed_sql.proofs.Walking.{walk_whole}
use Rattle.catalogue.specs.Statements.{ItemOf}
use Rattle.catalogue.proofs.Loops.{counted_next, counted_stops}
use Rattle.catalogue.proofs.select.items_of.Goals as goal

pub loop-item-preserved : goal.loop-item-preserved
loop-item-preserved c =
    counted_next (ItemOf (scope_of c.args.check.now.scope)) c.args.items.now c.loop-item.item-index c.item-item.result c.loop-item.made c.len.result
    c.args.known.now.items c.loop-item.known.items c.push.new.self c.in_ok-typed.typed c.item_of.new.known.items
    (omega arith) c.item-item.is c.loop-item.invariant c.len.ensures c.in_ok-typed.ensures c.in_ok-push.ensures.ok

pub returns-in_err-typed : goal.returns-in_err-typed
returns-in_err-typed c =
    let p = err_from_is_err_and c.from_residual.result c.from_residual.ensures.1 in
    rw (p.1, p.2) (counted_stops (ItemOf (scope_of c.args.check.now.scope)) c.args.items.now c.loop-item.item-index c.item-item.result c.loop-item.made
    c.len.result c.args.known.now.items c.loop-item.known.items (λ (e : TypedExpr). e) (λ (es : List TypedExpr). es)
    c.item_of.new.known.items c.item_of.new.known.items c.in_err-typed.field-0.0
    (omega arith) c.item-item.is c.loop-item.invariant c.len.ensures c.in_err-typed.ensures)

pub returns : goal.returns
returns c =
    walk_whole (ItemOf (scope_of c.args.check.now.scope)) (λ before e. suc before) 0 c.args.items.now c.loop-item.item-index
    c.args.known.now.items _ (omega arith) c.loop-item.invariant

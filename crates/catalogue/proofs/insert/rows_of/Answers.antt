use Rattle.std.proofs.Common.{List, map, arith}
use Rattle.std.proofs.lemmas.Result.{err_from_is_err_and}
use Rattle.typed_sql.specs.Meaning.{scope_of}
use Rattle.typed_sql.proofs.Chains.{each_next, each_stops, each_whole}
use Rattle.catalogue.specs.declared.checked.TypedCell.{TypedCell}
use Rattle.catalogue.specs.Statements.{RowOf}
use Rattle.catalogue.specs.Targets.{target_of}
use Rattle.catalogue.proofs.insert.rows_of.Goals as goal

pub loop-row-preserved : goal.loop-row-preserved
loop-row-preserved c =
    each_next (RowOf (scope_of c.args.check.now.scope) c.args.columns.now (map target_of c.args.given.now)) c.args.rows.now c.loop-row.row-index
    c.args.known.now.items c.loop-row.known.items c.loop-row.made c.row-item.result c.push.new.self c.in_ok-filled.filled c.row_of.new.known.items
    (omega arith) c.row-item.is c.loop-row.invariant (rw c.as_slice-cells.ensures at c.in_ok-filled.ensures) c.in_ok-push.ensures.ok

pub returns-in_err-filled : goal.returns-in_err-filled
returns-in_err-filled c =
    let p = err_from_is_err_and c.from_residual.result c.from_residual.ensures.1 in
    rw (p.1, p.2) (each_stops (RowOf (scope_of c.args.check.now.scope) c.args.columns.now (map target_of c.args.given.now)) c.args.rows.now
    c.loop-row.row-index c.args.known.now.items c.loop-row.known.items c.loop-row.made (λ (r : List TypedCell). r) (λ (rs : List (List TypedCell)). rs)
    c.row-item.result c.row_of.new.known.items c.row_of.new.known.items c.in_err-filled.field-0.0
    (omega arith) c.row-item.is c.loop-row.invariant (rw c.as_slice-cells.ensures at c.in_err-filled.ensures))

pub returns : goal.returns
returns c =
    each_whole (RowOf (scope_of c.args.check.now.scope) c.args.columns.now (map target_of c.args.given.now)) c.args.rows.now c.loop-row.row-index
    c.args.known.now.items c.loop-row.known.items c.loop-row.made (omega arith) c.loop-row.invariant

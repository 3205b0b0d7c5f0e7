use Rattle.std.proofs.Common.{ℕ, suc, List, map, arith, sym, subst}
use Rattle.std.specs.Prelude.{Option, Ok, Err, slice_get}
use Rattle.std.proofs.lemmas.Result.{err_from_is_err_and}
use Rattle.schema.specs.declared.catalogue.ColumnDef.{ColumnDef}
use Rattle.sql_tree.specs.declared.statement.Cell.{Cell}
use Rattle.typed_sql.specs.Steps.{Answers}
use Rattle.typed_sql.specs.Meaning.{scope_of}
use Rattle.typed_sql.proofs.Walking.{walk_whole}
use Rattle.catalogue.specs.declared.checked.TypedCell.{TypedCell}
use Rattle.catalogue.specs.Statements.{CellAt, column_at}
use Rattle.catalogue.specs.Targets.{target_of}
use Rattle.catalogue.proofs.Loops.{counted_next, counted_stops}
use Rattle.catalogue.proofs.TargetLemmas.{column_found}
use Rattle.catalogue.proofs.insert.cells_of.Goals as goal

pub loop-cell-preserved : goal.loop-cell-preserved
loop-cell-preserved c =
    let scope = scope_of c.args.check.now.scope in
    counted_next (λ (at : ℕ) (cell : Cell). CellAt scope (column_at (slice_get (map target_of c.args.given.now) at)) cell) c.args.row.now
    c.loop-cell.cell-index c.cell-item.result c.loop-cell.cells c.len.result c.args.known.now.items c.loop-cell.known.items
    c.push.new.self c.in_ok-made.made c.cell_at.new.known.items
    (omega arith) c.cell-item.is c.loop-cell.invariant c.len.ensures
    (subst (λ (t : Option ColumnDef). CellAt scope t c.cell-item.result c.loop-cell.known.items (Ok (c.in_ok-made.made, c.cell_at.new.known.items)))
    (column_found c.args.given.now c.len.result c.target_at-target.result c.target_at-target.ensures) c.in_ok-made.ensures)
    c.in_ok-push.ensures.ok

pub returns-in_err-made : goal.returns-in_err-made
returns-in_err-made c =
    let scope = scope_of c.args.check.now.scope in
    let p = err_from_is_err_and c.from_residual.result c.from_residual.ensures.1 in
    rw (p.1, p.2) (counted_stops (λ (at : ℕ) (cell : Cell). CellAt scope (column_at (slice_get (map target_of c.args.given.now) at)) cell) c.args.row.now
    c.loop-cell.cell-index c.cell-item.result c.loop-cell.cells c.len.result c.args.known.now.items c.loop-cell.known.items
    (λ (k : TypedCell). k) (λ (ks : List TypedCell). ks) c.cell_at.new.known.items c.cell_at.new.known.items c.in_err-made.field-0.0
    (omega arith) c.cell-item.is c.loop-cell.invariant c.len.ensures
    (subst (λ (t : Option ColumnDef). Answers (λ (k : TypedCell). k) (Err c.in_err-made.field-0.0) c.cell_at.new.known.items
    (CellAt scope t c.cell-item.result c.loop-cell.known.items))
    (column_found c.args.given.now c.len.result c.target_at-target.result c.target_at-target.ensures) c.in_err-made.ensures))

pub returns : goal.returns
returns c =
    walk_whole (λ (at : ℕ) (cell : Cell). CellAt (scope_of c.args.check.now.scope) (column_at (slice_get (map target_of c.args.given.now) at)) cell)
    (λ (at : ℕ) (cell : TypedCell). suc at) 0 c.args.row.now c.loop-cell.cell-index c.args.known.now.items _ (omega arith) c.loop-cell.invariant

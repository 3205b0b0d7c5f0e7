use Rattle.std.proofs.Common.{map}
use Rattle.std.proofs.lemmas.Result.{err_from_is_err_and}
use Rattle.typed_sql.specs.Meaning.{scope_of}
use Rattle.catalogue.specs.Targets.{target_of}
use Rattle.catalogue.proofs.ItemLemmas.{cells_stop, row_answers}
use Rattle.catalogue.proofs.insert.row_of.Goals as goal

pub returns-in_err-cells : goal.returns-in_err-cells
returns-in_err-cells c =
    let p = err_from_is_err_and c.from_residual.result c.from_residual.ensures.1 in
    rw (p.1, p.2) (cells_stop (scope_of c.args.check.now.scope) c.args.columns.now (map target_of c.args.given.now) c.args.row.now c.args.known.now.items
    c.in_err-cells.field-0.0 c.cells_of.new.known.items c.cells_of.new.known.items c.in_err-cells.ensures)

pub returns : goal.returns
returns c =
    row_answers (scope_of c.args.check.now.scope) c.args.columns.now (map target_of c.args.given.now) c.args.row.now c.args.known.now.items
    c.in_ok-cells.cells c.cells_of.new.known.items c.whole_row.result c.in_ok-cells.ensures c.whole_row.ensures

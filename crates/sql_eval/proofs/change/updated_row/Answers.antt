use Rattle.std.proofs.Common.{List, subst}
use Rattle.std.proofs.lemmas.Result.{err_from_is_err_and}
use Rattle.pg_values.specs.declared.value.Value.{Value}
use Rattle.sql_eval.specs.declared.row.Row.{Row}
use Rattle.sql_eval.specs.Walks.{Coded, GivesAs}
use Rattle.sql_eval.specs.Reads.{alone}
use Rattle.sql_eval.specs.Stored.{cells_set, not_lacking, updated_row}
use Rattle.sql_eval.proofs.Changing.{new_stops, new_lacks, new_fits}
use Rattle.sql_eval.proofs.Walking.{code_on}
use Rattle.sql_eval.proofs.change.updated_row.Goals as goal

pub returns-in_err-cells : goal.returns-in_err-cells
returns-in_err-cells c =
    let p = err_from_is_err_and c.from_residual.result c.from_residual.ensures.1 in
    rw (p.1, p.2) (code_on (λ (vs : List Value). vs) (λ (r : Row). r) c.in_err-cells.field-0.0 (cells_set alone c.args.columns.now c.args.sets.now c.args.old.now)
    (updated_row alone c.args.columns.now c.args.sets.now c.args.old.now) c.in_err-cells.ensures
    (λ code is. new_stops c.args.columns.now c.args.sets.now c.args.old.now code is))

pub returns-in_err-row : goal.returns-in_err-row
returns-in_err-row c =
    let p = err_from_is_err_and c.from_residual-in_err-row.result c.from_residual-in_err-row.ensures.1 in
    rw (p.1, p.2) (code_on (λ (vs : List Value). vs) (λ (r : Row). r) c.in_err-row.field-0.0 (not_lacking c.args.columns.now c.in_ok-cells.cells)
    (updated_row alone c.args.columns.now c.args.sets.now c.args.old.now) c.in_err-row.ensures
    (λ code is. new_lacks c.args.columns.now c.args.sets.now c.args.old.now c.in_ok-cells.cells code c.in_ok-cells.ensures is))

pub returns : goal.returns
returns c =
    subst (λ (o : Coded Row). GivesAs (λ (r : Row). r) c.fitting.result o)
    (new_fits c.args.columns.now c.args.sets.now c.args.old.now c.in_ok-cells.cells c.in_ok-row.row.cells c.in_ok-cells.ensures c.in_ok-row.ensures) c.fitting.ensures

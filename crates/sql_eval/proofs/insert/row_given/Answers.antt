use Rattle.std.proofs.Common.{◌≡◌, List, ap, sym, subst}
use Rattle.std.specs.Prelude.{ℤ, Ok, Err}
use Rattle.std.proofs.lemmas.Int.{to_z-of_z}
use Rattle.std.proofs.lemmas.Result.{err_from_is_err_and}
use Rattle.pg_values.specs.declared.value.Value.{Value}
use Rattle.sql_eval.specs.declared.row.Row.{Row}
use Rattle.sql_eval.specs.Walks.{Coded, GivesAs, all_of, behind}
use Rattle.sql_eval.specs.Reads.{alone}
use Rattle.sql_eval.specs.Stored.{not_lacking}
use Rattle.sql_eval.specs.Inserts.{cell_values, cells_given}
use Rattle.sql_eval.proofs.Walking.{code_on}
use Rattle.sql_eval.proofs.insert.row_given.Goals as goal

pub returns-in_err-cells : goal.returns-in_err-cells
returns-in_err-cells c =
    let p = err_from_is_err_and c.from_residual.result c.from_residual.ensures.1 in
    rw (p.1, p.2) (code_on (λ (vs : List Value). vs) (λ (r : Row). r.cells) c.in_err-cells.field-0.0 (all_of (cell_values alone c.args.columns.now c.args.next c.args.cells.now))
    (cells_given alone c.args.columns.now c.args.next c.args.cells.now)
    (subst (λ (m : ℤ). GivesAs (λ (vs : List Value). vs) (Err c.in_err-cells.field-0.0) (all_of (cell_values alone c.args.columns.now m c.args.cells.now)))
    (to_z-of_z _ c.args.next c.ranges.next) c.in_err-cells.ensures)
    (λ code is. ap (λ (o : Coded (List Value)). behind o (not_lacking c.args.columns.now)) is))

pub returns : goal.returns
returns c =
    let gives = subst (λ (m : ℤ). all_of (cell_values alone c.args.columns.now m c.args.cells.now) ≡ Ok c.in_ok-cells.cells) (to_z-of_z _ c.args.next c.ranges.next) c.in_ok-cells.ensures in
    subst (λ (o : Coded (List Value)). GivesAs (λ (r : Row). r.cells) c.not_lacking.result (behind o (not_lacking c.args.columns.now))) (sym gives) c.not_lacking.ensures

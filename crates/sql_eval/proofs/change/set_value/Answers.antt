use Rattle.std.proofs.Common.{ap, sym, subst}
use Rattle.std.proofs.lemmas.Result.{err_from_is_err_and}
use Rattle.sql_values.specs.Outcome.{Outcome, Gives}
use Rattle.sql_values.specs.Meaning.{value_in}
use Rattle.sql_eval.specs.Walks.{behind}
use Rattle.sql_eval.specs.Reads.{alone, at_row}
use Rattle.sql_eval.specs.Stored.{as_column, kind_at, set_value}
use Rattle.sql_eval.proofs.Walking.{value_gives_on}
use Rattle.sql_eval.proofs.change.set_value.Goals as goal

pub returns-in_err-given : goal.returns-in_err-given
returns-in_err-given c =
    let s = c.args.set.now in
    let p = err_from_is_err_and c.from_residual.result c.from_residual.ensures.1 in
    rw (p.1, p.2) (value_gives_on c.in_err-given.field-0.0 (value_in (at_row alone c.args.old.now) s.expr) (set_value alone c.args.columns.now c.args.old.now s) c.in_err-given.ensures
    (λ code is. ap (λ (o : Outcome). behind o (as_column (kind_at c.args.columns.now s.column))) is))

pub returns : goal.returns
returns c =
    let s = c.args.set.now in
    subst (λ (o : Outcome). Gives c.as_column.result (behind o (as_column (kind_at c.args.columns.now s.column)))) (sym c.in_ok-given.ensures) c.as_column.ensures

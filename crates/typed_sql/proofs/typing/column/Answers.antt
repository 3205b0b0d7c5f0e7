use Rattle.std.proofs.lemmas.Result.{err_from_is_err_and}
use Rattle.typed_sql.specs.declared.typed.TypedExpr.{TypedExpr}
use Rattle.typed_sql.specs.Own.{column_meant}
use Rattle.typed_sql.specs.Typing.{column_expr}
use Rattle.typed_sql.specs.Meaning.{scope_of}
use Rattle.typed_sql.proofs.Faults.{found_made, found_stops}
use Rattle.typed_sql.proofs.typing.column.Goals as goal

pub returns-in_err-number : goal.returns-in_err-number
returns-in_err-number c =
    let p = err_from_is_err_and c.from_residual.result c.from_residual.ensures.1 in
    rw (p.1, p.2) (found_stops column_expr (λ (e : TypedExpr). e) c.in_err-number.field-0.0
    (column_meant (scope_of c.args.check.now.scope) c.args.qualifier.now c.args.name.now) c.args.known.now c.args.known.now c.in_err-number.ensures)

pub returns : goal.returns
returns c =
    found_made column_expr (column_meant (scope_of c.args.check.now.scope) c.args.qualifier.now c.args.name.now) c.args.known.now
    (c.in_ok-number.number, c.in_ok-number.column.now) c.in_ok-number.ensures

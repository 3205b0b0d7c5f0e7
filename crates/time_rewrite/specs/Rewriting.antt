-- A statement at a moment: the literal of the moment stands in place of each time function and of each cell that takes the moment.
use Rattle.std.specs.Prelude.{ℤ, map, option_map}
use Rattle.pg_values.specs.declared.col_type.ColType.TheVariants as kind
use Rattle.pg_values.specs.declared.value.Value.TheVariants as value
use Rattle.typed_sql.specs.declared.typed.TypedExpr.{TypedExpr}
use Rattle.typed_sql.specs.declared.typed.TypedForm.{TypedForm, roll-TypedForm}
use Rattle.typed_sql.specs.declared.typed.TypedForm.TheOpen.{TypedForm-F}
use Rattle.typed_sql.specs.declared.typed.TypedForm.TheFolds.{fold-TypedForm, fold-TypedExpr}
use Rattle.typed_sql.specs.declared.typed.TypedSumPart.{TypedSumPart}
use Rattle.typed_sql.specs.declared.typed.TypedProductPart.{TypedProductPart}
use Rattle.typed_sql.specs.Typing.{typed, literal}
use Rattle.catalogue.specs.declared.checked.Checked.{Checked}
use Rattle.catalogue.specs.declared.checked.CheckedBody.{CheckedBody}
use Rattle.catalogue.specs.declared.checked.CheckedBody.TheVariants as body
use Rattle.catalogue.specs.declared.checked.TypedCell.{TypedCell}
use Rattle.catalogue.specs.declared.checked.TypedCell.TheVariants as cell
use Rattle.catalogue.specs.declared.checked.TypedSet.{TypedSet}

-- a form whose parts are done: a time function becomes the literal of the moment, any other form stays
abbrev pub timed : {F E P S : Type 0} → ℤ → TypedForm-F F E P S → TypedForm-F F E P S
timed moment TypedForm-F.CurrentTimestamp = TypedForm-F.Literal (value.Moment moment)
timed moment TypedForm-F.Now = TypedForm-F.Literal (value.Moment moment)
timed moment TypedForm-F.TransactionTimestamp = TypedForm-F.Literal (value.Moment moment)
timed moment other = other

-- a form at a moment, with all that stands in it
abbrev pub form_at : ℤ → TypedForm → TypedForm
form_at moment = fold-TypedForm TypedForm TypedExpr TypedProductPart TypedSumPart
    (λ form. roll-TypedForm (timed moment form)) (λ e. typed e.kind e.form)
    (λ f. record { sign = f.sign; part = f.part }) (λ s. record { minus = s.minus; part = s.part })

-- an expression at a moment, of the same type
abbrev pub expr_at : ℤ → TypedExpr → TypedExpr
expr_at moment = fold-TypedExpr TypedForm TypedExpr TypedProductPart TypedSumPart
    (λ form. roll-TypedForm (timed moment form)) (λ e. typed e.kind e.form)
    (λ f. record { sign = f.sign; part = f.part }) (λ s. record { minus = s.minus; part = s.part })

abbrev pub summand_at : ℤ → TypedSumPart → TypedSumPart
summand_at moment s = record { minus = s.minus; part = expr_at moment s.part }

abbrev pub factor_at : ℤ → TypedProductPart → TypedProductPart
factor_at moment f = record { sign = f.sign; part = expr_at moment f.part }

abbrev pub cell_at : ℤ → TypedCell → TypedCell
cell_at moment cell.Serial = cell.Serial
cell_at moment cell.Now = cell.Given (literal kind.Moment (value.Moment moment))
cell_at moment (cell.Given e) = cell.Given (expr_at moment e)

abbrev pub set_at : ℤ → TypedSet → TypedSet
set_at moment s = record { column = s.column; expr = expr_at moment s.expr }

abbrev pub body_at : ℤ → CheckedBody → CheckedBody
body_at moment (body.Read read) = body.Read (record read {
  list = map (expr_at moment) read.list;
  filter = option_map (expr_at moment) read.filter;
  limit = option_map (expr_at moment) read.limit;
})
body_at moment (body.Insert insert) = body.Insert (record insert { rows = map (map (cell_at moment)) insert.rows })
body_at moment (body.Change change) = body.Change (record change {
  sets = map (set_at moment) change.sets;
  filter = option_map (expr_at moment) change.filter;
})
body_at moment (body.Remove remove) = body.Remove (record remove { filter = option_map (expr_at moment) remove.filter })

-- the statement at a moment: the columns of its result and the types of its parameters stay
abbrev pub at_moment : ℤ → Checked → Checked
at_moment moment checked = record checked { body = body_at moment checked.body }

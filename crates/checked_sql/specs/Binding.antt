-- Values in place of the parameters of a checked statement.
use Rattle.std.specs.Prelude.{ℕ, zero, suc, List, [], map, Option, Some, None, slice_get}
use Rattle.std.specs.Option.{option_map}
use Rattle.pg_values.specs.declared.value.Value.{Value}
use Rattle.typed_sql.specs.declared.typed.TypedExpr.{TypedExpr}
use Rattle.typed_sql.specs.declared.typed.TypedForm.{TypedForm}
use Rattle.typed_sql.specs.declared.typed.TypedForm.TheOpen.{TypedForm-F, TypedExpr-F, TypedSumPart-F, TypedProductPart-F}
use Rattle.typed_sql.specs.declared.typed.TypedForm.TheFolds.{fold-TypedExpr, fold-TypedForm}
use Rattle.typed_sql.specs.declared.typed.TypedForm.TheVariants as form
use Rattle.typed_sql.specs.declared.typed.TypedSumPart.{TypedSumPart}
use Rattle.typed_sql.specs.declared.typed.TypedProductPart.{TypedProductPart}
use Rattle.catalogue.specs.declared.checked.Checked.{Checked}
use Rattle.catalogue.specs.declared.checked.CheckedBody.{CheckedBody}
use Rattle.catalogue.specs.declared.checked.CheckedBody.TheVariants as body
use Rattle.catalogue.specs.declared.checked.CheckedRead.{CheckedRead}
use Rattle.catalogue.specs.declared.checked.TypedCell.{TypedCell}
use Rattle.catalogue.specs.declared.checked.TypedCell.TheVariants as cell
use Rattle.catalogue.specs.declared.checked.TypedSet.{TypedSet}

abbrev pub value_or : ℕ → Option Value → TypedForm
value_or n None = form.Param n
value_or n (Some value) = form.Literal value

-- the value of a parameter, from 1; where there is none it stays
abbrev pub value_put : List Value → ℕ → TypedForm
value_put values zero = form.Param zero
value_put values (suc at) = value_or (suc at) (slice_get values at)

-- a value in place of a parameter; all other forms stay
abbrev pub put_form : List Value → TypedForm-F TypedForm TypedExpr TypedProductPart TypedSumPart → TypedForm
put_form values (TypedForm-F.Or parts) = form.Or parts
put_form values (TypedForm-F.And parts) = form.And parts
put_form values (TypedForm-F.Not part) = form.Not part
put_form values (TypedForm-F.IsNull part tests) = form.IsNull part tests
put_form values (TypedForm-F.Compare how left right) = form.Compare how left right
put_form values (TypedForm-F.Member part negated entries) = form.Member part negated entries
put_form values (TypedForm-F.Concat parts) = form.Concat parts
put_form values (TypedForm-F.Sum first summands) = form.Sum first summands
put_form values (TypedForm-F.Product first factors) = form.Product first factors
put_form values (TypedForm-F.Minus part) = form.Minus part
put_form values (TypedForm-F.Literal v) = form.Literal v
put_form values (TypedForm-F.Param number) = value_put values number
put_form values (TypedForm-F.Column number) = form.Column number
put_form values TypedForm-F.CurrentTimestamp = form.CurrentTimestamp
put_form values TypedForm-F.Now = form.Now
put_form values TypedForm-F.TransactionTimestamp = form.TransactionTimestamp

abbrev pub whole_expr : TypedExpr-F TypedForm TypedExpr TypedProductPart TypedSumPart → TypedExpr
whole_expr e = record { kind = e.kind; form = e.form }

abbrev pub whole_factor : TypedProductPart-F TypedForm TypedExpr TypedProductPart TypedSumPart → TypedProductPart
whole_factor f = record { sign = f.sign; part = f.part }

abbrev pub whole_summand : TypedSumPart-F TypedForm TypedExpr TypedProductPart TypedSumPart → TypedSumPart
whole_summand s = record { minus = s.minus; part = s.part }

-- a form, and an expression, with values in place of the parameters
abbrev pub bound_form : List Value → TypedForm → TypedForm
bound_form values = fold-TypedForm TypedForm TypedExpr TypedProductPart TypedSumPart (put_form values) whole_expr whole_factor whole_summand

abbrev pub bound : List Value → TypedExpr → TypedExpr
bound values = fold-TypedExpr TypedForm TypedExpr TypedProductPart TypedSumPart (put_form values) whole_expr whole_factor whole_summand

abbrev pub bound_summand : List Value → TypedSumPart → TypedSumPart
bound_summand values s = record { minus = s.minus; part = bound values s.part }

abbrev pub bound_factor : List Value → TypedProductPart → TypedProductPart
bound_factor values f = record { sign = f.sign; part = bound values f.part }

abbrev pub bound_cell : List Value → TypedCell → TypedCell
bound_cell values cell.Serial = cell.Serial
bound_cell values cell.Now = cell.Now
bound_cell values (cell.Given e) = cell.Given (bound values e)

abbrev pub bound_set : List Value → TypedSet → TypedSet
bound_set values s = record { column = s.column; expr = bound values s.expr }

abbrev pub bound_read : List Value → CheckedRead → CheckedRead
bound_read values r = record r {
  list = map (bound values) r.list;
  filter = option_map (bound values) r.filter;
  limit = option_map (bound values) r.limit;
}

abbrev pub bound_body : List Value → CheckedBody → CheckedBody
bound_body values (body.Read r) = body.Read (bound_read values r)
bound_body values (body.Insert i) = body.Insert (record i { rows = map (map (bound_cell values)) i.rows })
bound_body values (body.Change c) = body.Change (record c {
  sets = map (bound_set values) c.sets;
  filter = option_map (bound values) c.filter;
})
bound_body values (body.Remove r) = body.Remove (record r { filter = option_map (bound values) r.filter })

-- the statement with values in place of its parameters, of which it has none left; in all else it is the same
abbrev pub bound_statement : List Value → Checked → Checked
bound_statement values checked = record { body = bound_body values checked.body; columns = checked.columns; kinds = [] }

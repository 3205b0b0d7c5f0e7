-- Statements without time functions and without cells that take the moment.
use Rattle.std.specs.Prelude.{◌&&◌, Bool as Truth, true, false, Option, Some, None}
use Rattle.std.specs.List.{list_all}
use Rattle.typed_sql.specs.declared.typed.TypedExpr.{TypedExpr}
use Rattle.typed_sql.specs.declared.typed.TypedForm.TheOpen.{TypedForm-F}
use Rattle.typed_sql.specs.declared.typed.TypedForm.TheFolds.{fold-TypedExpr}
use Rattle.catalogue.specs.declared.checked.Checked.{Checked}
use Rattle.catalogue.specs.declared.checked.CheckedBody.{CheckedBody}
use Rattle.catalogue.specs.declared.checked.CheckedBody.TheVariants as body
use Rattle.catalogue.specs.declared.checked.TypedCell.{TypedCell}
use Rattle.catalogue.specs.declared.checked.TypedCell.TheVariants as cell

-- a form by its parts: none is a time function, nor is the form
abbrev pub timeless_form : TypedForm-F Truth Truth Truth Truth → Truth
timeless_form (TypedForm-F.Or parts) = list_all (λ part. part) parts
timeless_form (TypedForm-F.And parts) = list_all (λ part. part) parts
timeless_form (TypedForm-F.Not part) = part
timeless_form (TypedForm-F.IsNull part tests) = part
timeless_form (TypedForm-F.Compare how left right) = left && right
timeless_form (TypedForm-F.Member part negated entries) = part && list_all (λ entry. entry) entries
timeless_form (TypedForm-F.Concat parts) = list_all (λ part. part) parts
timeless_form (TypedForm-F.Sum first summands) = first && list_all (λ summand. summand) summands
timeless_form (TypedForm-F.Product first factors) = first && list_all (λ factor. factor) factors
timeless_form (TypedForm-F.Minus part) = part
timeless_form (TypedForm-F.Literal v) = true
timeless_form (TypedForm-F.Param number) = true
timeless_form (TypedForm-F.Column number) = true
timeless_form TypedForm-F.CurrentTimestamp = false
timeless_form TypedForm-F.Now = false
timeless_form TypedForm-F.TransactionTimestamp = false

-- whether no time function stands in an expression
abbrev pub timeless_expr : TypedExpr → Truth
timeless_expr = fold-TypedExpr Truth Truth Truth Truth timeless_form (λ e. e.form) (λ f. f.part) (λ s. s.part)

abbrev pub timeless_option : Option TypedExpr → Truth
timeless_option None = true
timeless_option (Some e) = timeless_expr e

abbrev pub timeless_cell : TypedCell → Truth
timeless_cell cell.Serial = true
timeless_cell cell.Now = false
timeless_cell (cell.Given e) = timeless_expr e

abbrev pub timeless_body : CheckedBody → Truth
timeless_body (body.Read read) = list_all timeless_expr read.list && (timeless_option read.filter && timeless_option read.limit)
timeless_body (body.Insert insert) = list_all (list_all timeless_cell) insert.rows
timeless_body (body.Change change) = list_all (λ s. timeless_expr s.expr) change.sets && timeless_option change.filter
timeless_body (body.Remove remove) = timeless_option remove.filter

-- whether neither a time function nor a cell that takes the moment stands in a statement
abbrev pub is_timeless : Checked → Truth
is_timeless checked = timeless_body checked.body

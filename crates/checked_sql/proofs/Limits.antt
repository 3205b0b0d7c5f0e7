-- Which forms a limit may have.
use Rattle.std.proofs.Common.{◌≡◌, ◌∙◌, ℕ, List, ap, sym}
use Rattle.std.specs.Prelude.{Bool as Truth, true, false}
use Rattle.pg_values.specs.declared.value.Value.{Value}
use Rattle.sql_tree.specs.declared.expr.Comparison.{Comparison}
use Rattle.typed_sql.specs.declared.typed.TypedExpr.{TypedExpr}
use Rattle.typed_sql.specs.declared.typed.TypedForm.{TypedForm, out-roll-TypedForm}
use Rattle.typed_sql.specs.declared.typed.TypedForm.TheOpen.{TypedForm-F}
use Rattle.typed_sql.specs.declared.typed.TypedForm.TheVariants as form
use Rattle.typed_sql.specs.declared.typed.TypedSumPart.{TypedSumPart}
use Rattle.typed_sql.specs.declared.typed.TypedProductPart.{TypedProductPart}
use Rattle.checked_sql.specs.OfCatalogue.{is_limit_form, is_limit_layer, is_written_form}

pub limit_or : (f : TypedForm) (parts : List TypedExpr) → f ≡ form.Or parts → is_limit_form f ≡ false
limit_or f parts is = ap is_limit_form (is ∙ sym (form.rolls-Or parts)) ∙ ap is_limit_layer (out-roll-TypedForm (TypedForm-F.Or parts))

pub limit_and : (f : TypedForm) (parts : List TypedExpr) → f ≡ form.And parts → is_limit_form f ≡ false
limit_and f parts is = ap is_limit_form (is ∙ sym (form.rolls-And parts)) ∙ ap is_limit_layer (out-roll-TypedForm (TypedForm-F.And parts))

pub limit_not : (f : TypedForm) (of : TypedExpr) → f ≡ form.Not of → is_limit_form f ≡ false
limit_not f of is = ap is_limit_form (is ∙ sym (form.rolls-Not of)) ∙ ap is_limit_layer (out-roll-TypedForm (TypedForm-F.Not of))

pub limit_is_null : (f : TypedForm) (of : TypedExpr) (tests : List Truth) → f ≡ form.IsNull of tests → is_limit_form f ≡ false
limit_is_null f of tests is = ap is_limit_form (is ∙ sym (form.rolls-IsNull of tests)) ∙ ap is_limit_layer (out-roll-TypedForm (TypedForm-F.IsNull of tests))

pub limit_compare : (f : TypedForm) (how : Comparison) (left right : TypedExpr) → f ≡ form.Compare how left right → is_limit_form f ≡ false
limit_compare f how left right is = ap is_limit_form (is ∙ sym (form.rolls-Compare how left right)) ∙ ap is_limit_layer (out-roll-TypedForm (TypedForm-F.Compare how left right))

pub limit_member : (f : TypedForm) (of : TypedExpr) (negated : Truth) (entries : List TypedExpr) → f ≡ form.Member of negated entries → is_limit_form f ≡ false
limit_member f of negated entries is = ap is_limit_form (is ∙ sym (form.rolls-Member of negated entries)) ∙ ap is_limit_layer (out-roll-TypedForm (TypedForm-F.Member of negated entries))

pub limit_concat : (f : TypedForm) (parts : List TypedExpr) → f ≡ form.Concat parts → is_limit_form f ≡ false
limit_concat f parts is = ap is_limit_form (is ∙ sym (form.rolls-Concat parts)) ∙ ap is_limit_layer (out-roll-TypedForm (TypedForm-F.Concat parts))

pub limit_sum : (f : TypedForm) (first : TypedExpr) (parts : List TypedSumPart) → f ≡ form.Sum first parts → is_limit_form f ≡ false
limit_sum f first parts is = ap is_limit_form (is ∙ sym (form.rolls-Sum first parts)) ∙ ap is_limit_layer (out-roll-TypedForm (TypedForm-F.Sum first parts))

pub limit_product : (f : TypedForm) (first : TypedExpr) (parts : List TypedProductPart) → f ≡ form.Product first parts → is_limit_form f ≡ false
limit_product f first parts is = ap is_limit_form (is ∙ sym (form.rolls-Product first parts)) ∙ ap is_limit_layer (out-roll-TypedForm (TypedForm-F.Product first parts))

pub limit_minus : (f : TypedForm) (of : TypedExpr) → f ≡ form.Minus of → is_limit_form f ≡ is_written_form of.form
limit_minus f of is = ap is_limit_form (is ∙ sym (form.rolls-Minus of)) ∙ ap is_limit_layer (out-roll-TypedForm (TypedForm-F.Minus of))

pub limit_literal : (f : TypedForm) (v : Value) → f ≡ form.Literal v → is_limit_form f ≡ true
limit_literal f v is = ap is_limit_form (is ∙ sym (form.rolls-Literal v)) ∙ ap is_limit_layer (out-roll-TypedForm (TypedForm-F.Literal v))

pub limit_param : (f : TypedForm) (number : ℕ) → f ≡ form.Param number → is_limit_form f ≡ true
limit_param f number is = ap is_limit_form (is ∙ sym (form.rolls-Param number)) ∙ ap is_limit_layer (out-roll-TypedForm (TypedForm-F.Param number))

pub limit_column : (f : TypedForm) (number : ℕ) → f ≡ form.Column number → is_limit_form f ≡ false
limit_column f number is = ap is_limit_form (is ∙ sym (form.rolls-Column number)) ∙ ap is_limit_layer (out-roll-TypedForm (TypedForm-F.Column number))

pub limit_current : (f : TypedForm) → f ≡ form.CurrentTimestamp → is_limit_form f ≡ false
limit_current f is = ap is_limit_form (is ∙ sym form.rolls-CurrentTimestamp) ∙ ap is_limit_layer (out-roll-TypedForm TypedForm-F.CurrentTimestamp)

pub limit_now : (f : TypedForm) → f ≡ form.Now → is_limit_form f ≡ false
limit_now f is = ap is_limit_form (is ∙ sym form.rolls-Now) ∙ ap is_limit_layer (out-roll-TypedForm TypedForm-F.Now)

pub limit_transaction : (f : TypedForm) → f ≡ form.TransactionTimestamp → is_limit_form f ≡ false
limit_transaction f is = ap is_limit_form (is ∙ sym form.rolls-TransactionTimestamp) ∙ ap is_limit_layer (out-roll-TypedForm TypedForm-F.TransactionTimestamp)

-- the forms
pub ruleset limits = (limit_or, limit_and, limit_not, limit_is_null, limit_compare, limit_member, limit_concat, limit_sum, limit_product, limit_minus, limit_literal, limit_param, limit_column, limit_current, limit_now, limit_transaction)

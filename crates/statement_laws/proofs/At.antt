-- What each form of an expression is at a moment.
use Rattle.std.proofs.Common.{◌≡◌, ℕ, ℤ, List, map, refl, sym}
use Rattle.std.specs.Prelude.{Bool as Truth}
use Rattle.pg_values.specs.declared.value.Value.{Value}
use Rattle.pg_values.specs.declared.value.Value.TheVariants as value
use Rattle.sql_tree.specs.declared.expr.Comparison.{Comparison}
use Rattle.typed_sql.specs.declared.typed.TypedExpr.{TypedExpr}
use Rattle.typed_sql.specs.declared.typed.TypedForm.{TypedForm}
use Rattle.typed_sql.specs.declared.typed.TypedForm.TheVariants as form
use Rattle.typed_sql.specs.declared.typed.TypedSumPart.{TypedSumPart}
use Rattle.typed_sql.specs.declared.typed.TypedProductPart.{TypedProductPart}
use Rattle.time_rewrite.specs.Rewriting.{expr_at, factor_at, form_at, summand_at}
use Rattle.time_rewrite.proofs.Forms.{and_at, column_at, compare_at, concat_at, current_at, is_null_at, literal_at, member_at, minus_at, not_at, now_at, or_at, param_at, product_at, sum_at, transaction_at}

module _ (moment : ℤ) where
  pub at_or : (f : TypedForm) (parts : List TypedExpr) → f ≡ form.Or parts → form_at moment f ≡ form.Or (map (expr_at moment) parts)
  at_or f parts is = sym (or_at moment f parts (map (expr_at moment) parts) is refl)

  pub at_and : (f : TypedForm) (parts : List TypedExpr) → f ≡ form.And parts → form_at moment f ≡ form.And (map (expr_at moment) parts)
  at_and f parts is = sym (and_at moment f parts (map (expr_at moment) parts) is refl)

  pub at_not : (f : TypedForm) (of : TypedExpr) → f ≡ form.Not of → form_at moment f ≡ form.Not (expr_at moment of)
  at_not f of is = sym (not_at moment f of (expr_at moment of) is refl)

  pub at_is_null : (f : TypedForm) (of : TypedExpr) (tests : List Truth) → f ≡ form.IsNull of tests → form_at moment f ≡ form.IsNull (expr_at moment of) tests
  at_is_null f of tests is = sym (is_null_at moment f of (expr_at moment of) tests tests is refl refl)

  pub at_compare : (f : TypedForm) (how : Comparison) (left right : TypedExpr) → f ≡ form.Compare how left right → form_at moment f ≡ form.Compare how (expr_at moment left) (expr_at moment right)
  at_compare f how left right is = sym (compare_at moment f how left right (expr_at moment left) (expr_at moment right) is refl refl)

  pub at_member : (f : TypedForm) (of : TypedExpr) (negated : Truth) (entries : List TypedExpr) → f ≡ form.Member of negated entries → form_at moment f ≡ form.Member (expr_at moment of) negated (map (expr_at moment) entries)
  at_member f of negated entries is = sym (member_at moment f of (expr_at moment of) negated entries (map (expr_at moment) entries) is refl refl)

  pub at_concat : (f : TypedForm) (parts : List TypedExpr) → f ≡ form.Concat parts → form_at moment f ≡ form.Concat (map (expr_at moment) parts)
  at_concat f parts is = sym (concat_at moment f parts (map (expr_at moment) parts) is refl)

  pub at_sum : (f : TypedForm) (first : TypedExpr) (parts : List TypedSumPart) → f ≡ form.Sum first parts → form_at moment f ≡ form.Sum (expr_at moment first) (map (summand_at moment) parts)
  at_sum f first parts is = sym (sum_at moment f first (expr_at moment first) parts (map (summand_at moment) parts) is refl refl)

  pub at_product : (f : TypedForm) (first : TypedExpr) (parts : List TypedProductPart) → f ≡ form.Product first parts → form_at moment f ≡ form.Product (expr_at moment first) (map (factor_at moment) parts)
  at_product f first parts is = sym (product_at moment f first (expr_at moment first) parts (map (factor_at moment) parts) is refl refl)

  pub at_minus : (f : TypedForm) (of : TypedExpr) → f ≡ form.Minus of → form_at moment f ≡ form.Minus (expr_at moment of)
  at_minus f of is = sym (minus_at moment f of (expr_at moment of) is refl)

  pub at_literal : (f : TypedForm) (v : Value) → f ≡ form.Literal v → form_at moment f ≡ form.Literal v
  at_literal f v is = sym (literal_at moment f v v is refl)

  pub at_param : (f : TypedForm) (number : ℕ) → f ≡ form.Param number → form_at moment f ≡ form.Param number
  at_param f number is = sym (param_at moment f number is)

  pub at_column : (f : TypedForm) (number : ℕ) → f ≡ form.Column number → form_at moment f ≡ form.Column number
  at_column f number is = sym (column_at moment f number is)

  pub at_current : (f : TypedForm) → f ≡ form.CurrentTimestamp → form_at moment f ≡ form.Literal (value.Moment moment)
  at_current f is = sym (current_at moment f is)

  pub at_now : (f : TypedForm) → f ≡ form.Now → form_at moment f ≡ form.Literal (value.Moment moment)
  at_now f is = sym (now_at moment f is)

  pub at_transaction : (f : TypedForm) → f ≡ form.TransactionTimestamp → form_at moment f ≡ form.Literal (value.Moment moment)
  at_transaction f is = sym (transaction_at moment f is)

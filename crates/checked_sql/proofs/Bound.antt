-- An expression with values in place of its parameters, by its form.
use Rattle.std.proofs.Common.{rules, ◌≡◌, ℕ, List, [], ◌∷◌, map, ap, sym, ◌∙◌, refl}
use Rattle.std.specs.Prelude.{Bool as Truth}
use Rattle.pg_values.specs.declared.value.Value.{Value}
use Rattle.sql_tree.specs.declared.expr.Comparison.{Comparison}
use Rattle.typed_sql.specs.declared.typed.TypedExpr.{TypedExpr}
use Rattle.typed_sql.specs.declared.typed.TypedForm.TheOpen.{TypedForm-F}
use Rattle.typed_sql.specs.declared.typed.TypedForm.{TypedForm, the_lemmas}
use Rattle.typed_sql.specs.declared.typed.TypedForm.TheFolds.{fold-TypedSumPart, fold-TypedProductPart, fold-roll-TypedForm}
use Rattle.typed_sql.specs.declared.typed.TypedForm.TheVariants as form
use Rattle.typed_sql.specs.declared.typed.TypedSumPart.{TypedSumPart}
use Rattle.typed_sql.specs.declared.typed.TypedProductPart.{TypedProductPart}
use Rattle.checked_sql.specs.Binding.{bound, bound_factor, bound_form, bound_summand, put_form, value_put, whole_expr, whole_factor, whole_summand}

pub bound_by_form : (values : List Value) (e : TypedExpr) → bound values e ≡ record { kind = e.kind; form = bound_form values e.form }
bound_by_form values e = search (rules, the_lemmas)

module _ (values : List Value) where
  abbrev summand_put : TypedSumPart → TypedSumPart
  summand_put = fold-TypedSumPart TypedForm TypedExpr TypedProductPart TypedSumPart (put_form values) whole_expr whole_factor whole_summand

  abbrev factor_put : TypedProductPart → TypedProductPart
  factor_put = fold-TypedProductPart TypedForm TypedExpr TypedProductPart TypedSumPart (put_form values) whole_expr whole_factor whole_summand

  summands_put : (ss : List TypedSumPart) → map summand_put ss ≡ map (bound_summand values) ss
  summands_put [] = refl
  summands_put (s ∷ ss) =
      let same : summand_put s ≡ bound_summand values s = search (rules, the_lemmas) in
      ap (λ more. summand_put s ∷ more) (summands_put ss) ∙ ap (λ x. x ∷ map (bound_summand values) ss) same

  factors_put : (fs : List TypedProductPart) → map factor_put fs ≡ map (bound_factor values) fs
  factors_put [] = refl
  factors_put (f ∷ fs) =
      let same : factor_put f ≡ bound_factor values f = search (rules, the_lemmas) in
      ap (λ more. factor_put f ∷ more) (factors_put fs) ∙ ap (λ x. x ∷ map (bound_factor values) fs) same

  pub bound_or : (f : TypedForm) (parts : List TypedExpr) → f ≡ form.Or parts → bound_form values f ≡ form.Or (map (bound values) parts)
  bound_or f parts is = ap (bound_form values) (is ∙ sym (form.rolls-Or parts))
      ∙ fold-roll-TypedForm TypedForm TypedExpr TypedProductPart TypedSumPart (put_form values) whole_expr whole_factor whole_summand (TypedForm-F.Or parts)

  pub bound_and : (f : TypedForm) (parts : List TypedExpr) → f ≡ form.And parts → bound_form values f ≡ form.And (map (bound values) parts)
  bound_and f parts is = ap (bound_form values) (is ∙ sym (form.rolls-And parts))
      ∙ fold-roll-TypedForm TypedForm TypedExpr TypedProductPart TypedSumPart (put_form values) whole_expr whole_factor whole_summand (TypedForm-F.And parts)

  pub bound_not : (f : TypedForm) (of : TypedExpr) → f ≡ form.Not of → bound_form values f ≡ form.Not (bound values of)
  bound_not f of is = ap (bound_form values) (is ∙ sym (form.rolls-Not of))
      ∙ fold-roll-TypedForm TypedForm TypedExpr TypedProductPart TypedSumPart (put_form values) whole_expr whole_factor whole_summand (TypedForm-F.Not of)

  pub bound_is_null : (f : TypedForm) (of : TypedExpr) (tests : List Truth) → f ≡ form.IsNull of tests → bound_form values f ≡ form.IsNull (bound values of) tests
  bound_is_null f of tests is = ap (bound_form values) (is ∙ sym (form.rolls-IsNull of tests))
      ∙ fold-roll-TypedForm TypedForm TypedExpr TypedProductPart TypedSumPart (put_form values) whole_expr whole_factor whole_summand (TypedForm-F.IsNull of tests)

  pub bound_compare : (f : TypedForm) (how : Comparison) (left : TypedExpr) (right : TypedExpr) → f ≡ form.Compare how left right → bound_form values f ≡ form.Compare how (bound values left) (bound values right)
  bound_compare f how left right is = ap (bound_form values) (is ∙ sym (form.rolls-Compare how left right))
      ∙ fold-roll-TypedForm TypedForm TypedExpr TypedProductPart TypedSumPart (put_form values) whole_expr whole_factor whole_summand (TypedForm-F.Compare how left right)

  pub bound_member : (f : TypedForm) (of : TypedExpr) (negated : Truth) (entries : List TypedExpr) → f ≡ form.Member of negated entries → bound_form values f ≡ form.Member (bound values of) negated (map (bound values) entries)
  bound_member f of negated entries is = ap (bound_form values) (is ∙ sym (form.rolls-Member of negated entries))
      ∙ fold-roll-TypedForm TypedForm TypedExpr TypedProductPart TypedSumPart (put_form values) whole_expr whole_factor whole_summand (TypedForm-F.Member of negated entries)

  pub bound_concat : (f : TypedForm) (parts : List TypedExpr) → f ≡ form.Concat parts → bound_form values f ≡ form.Concat (map (bound values) parts)
  bound_concat f parts is = ap (bound_form values) (is ∙ sym (form.rolls-Concat parts))
      ∙ fold-roll-TypedForm TypedForm TypedExpr TypedProductPart TypedSumPart (put_form values) whole_expr whole_factor whole_summand (TypedForm-F.Concat parts)

  pub bound_sum : (f : TypedForm) (first : TypedExpr) (parts : List TypedSumPart) → f ≡ form.Sum first parts → bound_form values f ≡ form.Sum (bound values first) (map (bound_summand values) parts)
  bound_sum f first parts is = ap (bound_form values) (is ∙ sym (form.rolls-Sum first parts))
      ∙ (fold-roll-TypedForm TypedForm TypedExpr TypedProductPart TypedSumPart (put_form values) whole_expr whole_factor whole_summand (TypedForm-F.Sum first parts) ∙ ap (form.Sum (bound values first)) (summands_put parts))

  pub bound_product : (f : TypedForm) (first : TypedExpr) (parts : List TypedProductPart) → f ≡ form.Product first parts → bound_form values f ≡ form.Product (bound values first) (map (bound_factor values) parts)
  bound_product f first parts is = ap (bound_form values) (is ∙ sym (form.rolls-Product first parts))
      ∙ (fold-roll-TypedForm TypedForm TypedExpr TypedProductPart TypedSumPart (put_form values) whole_expr whole_factor whole_summand (TypedForm-F.Product first parts) ∙ ap (form.Product (bound values first)) (factors_put parts))

  pub bound_minus : (f : TypedForm) (of : TypedExpr) → f ≡ form.Minus of → bound_form values f ≡ form.Minus (bound values of)
  bound_minus f of is = ap (bound_form values) (is ∙ sym (form.rolls-Minus of))
      ∙ fold-roll-TypedForm TypedForm TypedExpr TypedProductPart TypedSumPart (put_form values) whole_expr whole_factor whole_summand (TypedForm-F.Minus of)

  pub bound_literal : (f : TypedForm) (v : Value) → f ≡ form.Literal v → bound_form values f ≡ form.Literal v
  bound_literal f v is = ap (bound_form values) (is ∙ sym (form.rolls-Literal v))
      ∙ fold-roll-TypedForm TypedForm TypedExpr TypedProductPart TypedSumPart (put_form values) whole_expr whole_factor whole_summand (TypedForm-F.Literal v)

  pub bound_param : (f : TypedForm) (number : ℕ) → f ≡ form.Param number → bound_form values f ≡ value_put values number
  bound_param f number is = ap (bound_form values) (is ∙ sym (form.rolls-Param number))
      ∙ fold-roll-TypedForm TypedForm TypedExpr TypedProductPart TypedSumPart (put_form values) whole_expr whole_factor whole_summand (TypedForm-F.Param number)

  pub bound_column : (f : TypedForm) (number : ℕ) → f ≡ form.Column number → bound_form values f ≡ form.Column number
  bound_column f number is = ap (bound_form values) (is ∙ sym (form.rolls-Column number))
      ∙ fold-roll-TypedForm TypedForm TypedExpr TypedProductPart TypedSumPart (put_form values) whole_expr whole_factor whole_summand (TypedForm-F.Column number)

  pub bound_current : (f : TypedForm) → f ≡ form.CurrentTimestamp → bound_form values f ≡ form.CurrentTimestamp
  bound_current f is = ap (bound_form values) (is ∙ sym (form.rolls-CurrentTimestamp))
      ∙ fold-roll-TypedForm TypedForm TypedExpr TypedProductPart TypedSumPart (put_form values) whole_expr whole_factor whole_summand TypedForm-F.CurrentTimestamp

  pub bound_now : (f : TypedForm) → f ≡ form.Now → bound_form values f ≡ form.Now
  bound_now f is = ap (bound_form values) (is ∙ sym (form.rolls-Now))
      ∙ fold-roll-TypedForm TypedForm TypedExpr TypedProductPart TypedSumPart (put_form values) whole_expr whole_factor whole_summand TypedForm-F.Now

  pub bound_transaction : (f : TypedForm) → f ≡ form.TransactionTimestamp → bound_form values f ≡ form.TransactionTimestamp
  bound_transaction f is = ap (bound_form values) (is ∙ sym (form.rolls-TransactionTimestamp))
      ∙ fold-roll-TypedForm TypedForm TypedExpr TypedProductPart TypedSumPart (put_form values) whole_expr whole_factor whole_summand TypedForm-F.TransactionTimestamp

-- the forms
pub ruleset forms = (bound_or, bound_and, bound_not, bound_is_null, bound_compare, bound_member, bound_concat, bound_sum, bound_product, bound_minus, bound_literal, bound_param, bound_column, bound_current, bound_now, bound_transaction)

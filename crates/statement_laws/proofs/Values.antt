-- What each form of an expression comes to, by what its parts come to, for any expression of that form.
use Rattle.std.proofs.Common.{rules, ◌≡◌, ℕ, List, [], ◌∷◌, map, ap, sym, ◌∙◌, refl}
use Rattle.std.specs.Prelude.{Bool as Truth, true, false, Ok, slice_get}
use Rattle.pg_values.specs.declared.value.Value.{Value}
use Rattle.pg_values.specs.declared.value.Value.TheVariants as value
use Rattle.sql_tree.specs.declared.expr.Comparison.{Comparison}
use Rattle.typed_sql.specs.declared.typed.TypedExpr.{TypedExpr}
use Rattle.typed_sql.specs.declared.typed.TypedForm.TheOpen.{TypedForm-F}
use Rattle.typed_sql.specs.declared.typed.TypedForm.{TypedForm, the_lemmas}
use Rattle.typed_sql.specs.declared.typed.TypedForm.TheFolds.{fold-TypedForm, fold-TypedSumPart, fold-TypedProductPart, fold-roll-TypedForm}
use Rattle.typed_sql.specs.declared.typed.TypedForm.TheVariants as form
use Rattle.typed_sql.specs.declared.typed.TypedSumPart.{TypedSumPart}
use Rattle.typed_sql.specs.declared.typed.TypedProductPart.{TypedProductPart}
use Rattle.sql_values.specs.Outcome.{Outcome, behind, made, of_both, or_null}
use Rattle.sql_values.specs.Arithmetic.{negative}
use Rattle.sql_values.specs.Order.{compared}
use Rattle.sql_values.specs.Logic.{opposite, junction, member, tested}
use Rattle.sql_values.specs.Meaning.{Around, Summand, Factor, parameter_of, sum_of, product_of, text_of, outcome_of, value_in}

module _ (around : Around) where
  abbrev form_value : TypedForm → Outcome
  form_value = fold-TypedForm Outcome Outcome Factor Summand (outcome_of around) (λ e. e.form) (λ f. (f.sign, f.part)) (λ s. (s.minus, s.part))

  abbrev summand_value : TypedSumPart → Summand
  summand_value = fold-TypedSumPart Outcome Outcome Factor Summand (outcome_of around) (λ e. e.form) (λ f. (f.sign, f.part)) (λ s. (s.minus, s.part))

  abbrev factor_value : TypedProductPart → Factor
  factor_value = fold-TypedProductPart Outcome Outcome Factor Summand (outcome_of around) (λ e. e.form) (λ f. (f.sign, f.part)) (λ s. (s.minus, s.part))

  abbrev pub summand_in : TypedSumPart → Summand
  summand_in s = (s.minus, value_in around s.part)

  abbrev pub factor_in : TypedProductPart → Factor
  factor_in f = (f.sign, value_in around f.part)

  summands_in : (xs : List TypedSumPart) → map summand_value xs ≡ map summand_in xs
  summands_in [] = refl
  summands_in (x ∷ xs) =
      let same : summand_value x ≡ summand_in x = search (rules, the_lemmas) in
      ap (λ more. summand_value x ∷ more) (summands_in xs) ∙ ap (λ s. s ∷ map summand_in xs) same

  factors_in : (xs : List TypedProductPart) → map factor_value xs ≡ map factor_in xs
  factors_in [] = refl
  factors_in (x ∷ xs) =
      let same : factor_value x ≡ factor_in x = search (rules, the_lemmas) in
      ap (λ more. factor_value x ∷ more) (factors_in xs) ∙ ap (λ f. f ∷ map factor_in xs) same

  by_form : (e : TypedExpr) → value_in around e ≡ form_value e.form
  by_form e = search (rules, the_lemmas)

  pub at_or : (e : TypedExpr) (parts : List TypedExpr) → e.form ≡ form.Or parts
      → value_in around e ≡ junction true (map (value_in around) parts)
  at_or e parts is = by_form e ∙ (ap form_value is ∙ (ap form_value (sym (form.rolls-Or parts))
      ∙ fold-roll-TypedForm Outcome Outcome Factor Summand (outcome_of around) (λ e. e.form) (λ f. (f.sign, f.part)) (λ s. (s.minus, s.part)) (TypedForm-F.Or parts)))

  pub at_and : (e : TypedExpr) (parts : List TypedExpr) → e.form ≡ form.And parts
      → value_in around e ≡ junction false (map (value_in around) parts)
  at_and e parts is = by_form e ∙ (ap form_value is ∙ (ap form_value (sym (form.rolls-And parts))
      ∙ fold-roll-TypedForm Outcome Outcome Factor Summand (outcome_of around) (λ e. e.form) (λ f. (f.sign, f.part)) (λ s. (s.minus, s.part)) (TypedForm-F.And parts)))

  pub at_not : (e : TypedExpr) (of : TypedExpr) → e.form ≡ form.Not of
      → value_in around e ≡ made opposite (value_in around of)
  at_not e of is = by_form e ∙ (ap form_value is ∙ (ap form_value (sym (form.rolls-Not of))
      ∙ fold-roll-TypedForm Outcome Outcome Factor Summand (outcome_of around) (λ e. e.form) (λ f. (f.sign, f.part)) (λ s. (s.minus, s.part)) (TypedForm-F.Not of)))

  pub at_is_null : (e : TypedExpr) (of : TypedExpr) (tests : List Truth) → e.form ≡ form.IsNull of tests
      → value_in around e ≡ made (λ v. tested v tests) (value_in around of)
  at_is_null e of tests is = by_form e ∙ (ap form_value is ∙ (ap form_value (sym (form.rolls-IsNull of tests))
      ∙ fold-roll-TypedForm Outcome Outcome Factor Summand (outcome_of around) (λ e. e.form) (λ f. (f.sign, f.part)) (λ s. (s.minus, s.part)) (TypedForm-F.IsNull of tests)))

  pub at_compare : (e : TypedExpr) (how : Comparison) (left right : TypedExpr) → e.form ≡ form.Compare how left right
      → value_in around e ≡ of_both (λ a b. Ok (compared how a b)) (value_in around left) (value_in around right)
  at_compare e how left right is = by_form e ∙ (ap form_value is ∙ (ap form_value (sym (form.rolls-Compare how left right))
      ∙ fold-roll-TypedForm Outcome Outcome Factor Summand (outcome_of around) (λ e. e.form) (λ f. (f.sign, f.part)) (λ s. (s.minus, s.part)) (TypedForm-F.Compare how left right)))

  pub at_member : (e : TypedExpr) (of : TypedExpr) (negated : Truth) (entries : List TypedExpr) → e.form ≡ form.Member of negated entries
      → value_in around e ≡ member negated (value_in around of) (map (value_in around) entries)
  at_member e of negated entries is = by_form e ∙ (ap form_value is ∙ (ap form_value (sym (form.rolls-Member of negated entries))
      ∙ fold-roll-TypedForm Outcome Outcome Factor Summand (outcome_of around) (λ e. e.form) (λ f. (f.sign, f.part)) (λ s. (s.minus, s.part)) (TypedForm-F.Member of negated entries)))

  pub at_concat : (e : TypedExpr) (parts : List TypedExpr) → e.form ≡ form.Concat parts
      → value_in around e ≡ text_of (map (value_in around) parts)
  at_concat e parts is = by_form e ∙ (ap form_value is ∙ (ap form_value (sym (form.rolls-Concat parts))
      ∙ fold-roll-TypedForm Outcome Outcome Factor Summand (outcome_of around) (λ e. e.form) (λ f. (f.sign, f.part)) (λ s. (s.minus, s.part)) (TypedForm-F.Concat parts)))

  pub at_sum : (e : TypedExpr) (first : TypedExpr) (parts : List TypedSumPart) → e.form ≡ form.Sum first parts
      → value_in around e ≡ sum_of (value_in around first) (map summand_in parts)
  at_sum e first parts is = by_form e ∙ (ap form_value is ∙ (ap form_value (sym (form.rolls-Sum first parts))
      ∙ (fold-roll-TypedForm Outcome Outcome Factor Summand (outcome_of around) (λ e. e.form) (λ f. (f.sign, f.part)) (λ s. (s.minus, s.part)) (TypedForm-F.Sum first parts)
      ∙ ap (sum_of (value_in around first)) (summands_in parts))))

  pub at_product : (e : TypedExpr) (first : TypedExpr) (parts : List TypedProductPart) → e.form ≡ form.Product first parts
      → value_in around e ≡ product_of (value_in around first) (map factor_in parts)
  at_product e first parts is = by_form e ∙ (ap form_value is ∙ (ap form_value (sym (form.rolls-Product first parts))
      ∙ (fold-roll-TypedForm Outcome Outcome Factor Summand (outcome_of around) (λ e. e.form) (λ f. (f.sign, f.part)) (λ s. (s.minus, s.part)) (TypedForm-F.Product first parts)
      ∙ ap (product_of (value_in around first)) (factors_in parts))))

  pub at_minus : (e : TypedExpr) (of : TypedExpr) → e.form ≡ form.Minus of
      → value_in around e ≡ behind (value_in around of) negative
  at_minus e of is = by_form e ∙ (ap form_value is ∙ (ap form_value (sym (form.rolls-Minus of))
      ∙ fold-roll-TypedForm Outcome Outcome Factor Summand (outcome_of around) (λ e. e.form) (λ f. (f.sign, f.part)) (λ s. (s.minus, s.part)) (TypedForm-F.Minus of)))

  pub at_literal : (e : TypedExpr) (v : Value) → e.form ≡ form.Literal v
      → value_in around e ≡ Ok v
  at_literal e v is = by_form e ∙ (ap form_value is ∙ (ap form_value (sym (form.rolls-Literal v))
      ∙ fold-roll-TypedForm Outcome Outcome Factor Summand (outcome_of around) (λ e. e.form) (λ f. (f.sign, f.part)) (λ s. (s.minus, s.part)) (TypedForm-F.Literal v)))

  pub at_param : (e : TypedExpr) (number : ℕ) → e.form ≡ form.Param number
      → value_in around e ≡ Ok (parameter_of around.parameters number)
  at_param e number is = by_form e ∙ (ap form_value is ∙ (ap form_value (sym (form.rolls-Param number))
      ∙ fold-roll-TypedForm Outcome Outcome Factor Summand (outcome_of around) (λ e. e.form) (λ f. (f.sign, f.part)) (λ s. (s.minus, s.part)) (TypedForm-F.Param number)))

  pub at_column : (e : TypedExpr) (number : ℕ) → e.form ≡ form.Column number
      → value_in around e ≡ Ok (or_null (slice_get around.row number))
  at_column e number is = by_form e ∙ (ap form_value is ∙ (ap form_value (sym (form.rolls-Column number))
      ∙ fold-roll-TypedForm Outcome Outcome Factor Summand (outcome_of around) (λ e. e.form) (λ f. (f.sign, f.part)) (λ s. (s.minus, s.part)) (TypedForm-F.Column number)))

  pub at_current : (e : TypedExpr) → e.form ≡ form.CurrentTimestamp
      → value_in around e ≡ Ok (value.Moment around.moment)
  at_current e is = by_form e ∙ (ap form_value is ∙ (ap form_value (sym (form.rolls-CurrentTimestamp))
      ∙ fold-roll-TypedForm Outcome Outcome Factor Summand (outcome_of around) (λ e. e.form) (λ f. (f.sign, f.part)) (λ s. (s.minus, s.part)) TypedForm-F.CurrentTimestamp))

  pub at_now : (e : TypedExpr) → e.form ≡ form.Now
      → value_in around e ≡ Ok (value.Moment around.moment)
  at_now e is = by_form e ∙ (ap form_value is ∙ (ap form_value (sym (form.rolls-Now))
      ∙ fold-roll-TypedForm Outcome Outcome Factor Summand (outcome_of around) (λ e. e.form) (λ f. (f.sign, f.part)) (λ s. (s.minus, s.part)) TypedForm-F.Now))

  pub at_transaction : (e : TypedExpr) → e.form ≡ form.TransactionTimestamp
      → value_in around e ≡ Ok (value.Moment around.moment)
  at_transaction e is = by_form e ∙ (ap form_value is ∙ (ap form_value (sym (form.rolls-TransactionTimestamp))
      ∙ fold-roll-TypedForm Outcome Outcome Factor Summand (outcome_of around) (λ e. e.form) (λ f. (f.sign, f.part)) (λ s. (s.minus, s.part)) TypedForm-F.TransactionTimestamp))

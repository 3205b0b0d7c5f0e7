-- What each form of an expression is at a moment, by what its parts are.
use Rattle.std.proofs.Common.{rules, ◌≡◌, ◌∙◌, ℕ, ℤ, List, [], ◌∷◌, Bool, map, ap, sym, refl}
use Rattle.pg_values.specs.declared.value.Value.{Value}
use Rattle.pg_values.specs.declared.value.Value.TheVariants as value
use Rattle.sql_tree.specs.declared.expr.Comparison.{Comparison}
use Rattle.typed_sql.specs.declared.typed.TypedExpr.{TypedExpr}
use Rattle.typed_sql.specs.declared.typed.TypedForm.{TypedForm, roll-TypedForm, map-TypedForm, the_lemmas}
use Rattle.typed_sql.specs.declared.typed.TypedForm.TheOpen.{TypedForm-F}
use Rattle.typed_sql.specs.declared.typed.TypedForm.TheFolds.{fold-TypedSumPart, fold-TypedProductPart, fold-roll-TypedForm}
use Rattle.typed_sql.specs.declared.typed.TypedForm.TheVariants as form
use Rattle.typed_sql.specs.declared.typed.TypedSumPart.{TypedSumPart}
use Rattle.typed_sql.specs.declared.typed.TypedProductPart.{TypedProductPart}
use Rattle.typed_sql.specs.Typing.{typed}
use Rattle.time_rewrite.specs.Rewriting.{timed, form_at, expr_at, summand_at, factor_at}

abbrev pub Layer : Type 0
Layer = TypedForm-F TypedForm TypedExpr TypedProductPart TypedSumPart

module _ (moment : ℤ) where
  abbrev pub folded_summand : TypedSumPart → TypedSumPart
  folded_summand = fold-TypedSumPart TypedForm TypedExpr TypedProductPart TypedSumPart
      (λ form. roll-TypedForm (timed moment form)) (λ e. typed e.kind e.form)
      (λ f. record { sign = f.sign; part = f.part }) (λ s. record { minus = s.minus; part = s.part })

  abbrev pub folded_factor : TypedProductPart → TypedProductPart
  folded_factor = fold-TypedProductPart TypedForm TypedExpr TypedProductPart TypedSumPart
      (λ form. roll-TypedForm (timed moment form)) (λ e. typed e.kind e.form)
      (λ f. record { sign = f.sign; part = f.part }) (λ s. record { minus = s.minus; part = s.part })

  pub summand_is : (s : TypedSumPart) → folded_summand s ≡ summand_at moment s
  summand_is s = search (rules, the_lemmas)

  pub factor_is : (f : TypedProductPart) → folded_factor f ≡ factor_at moment f
  factor_is f = search (rules, the_lemmas)

  summands_are : (xs : List TypedSumPart) → map folded_summand xs ≡ map (summand_at moment) xs
  summands_are [] = refl
  summands_are (x ∷ xs) =
      ap (λ more. folded_summand x ∷ more) (summands_are xs) ∙ ap (λ s. s ∷ map (summand_at moment) xs) (summand_is x)

  factors_are : (xs : List TypedProductPart) → map folded_factor xs ≡ map (factor_at moment) xs
  factors_are [] = refl
  factors_are (x ∷ xs) =
      ap (λ more. folded_factor x ∷ more) (factors_are xs) ∙ ap (λ f. f ∷ map (factor_at moment) xs) (factor_is x)

  -- an expression by its form
  pub expr_by_form : (e : TypedExpr) → expr_at moment e ≡ typed e.kind (form_at moment e.form)
  expr_by_form e = search (rules, the_lemmas)

  -- a form by its parts
  pub rolled : (x : Layer) → form_at moment (roll-TypedForm x) ≡ roll-TypedForm (timed moment
      (map-TypedForm TypedForm TypedExpr TypedProductPart TypedSumPart TypedForm TypedExpr TypedProductPart TypedSumPart
      (form_at moment) (expr_at moment) folded_factor folded_summand x))
  rolled x = fold-roll-TypedForm TypedForm TypedExpr TypedProductPart TypedSumPart
      (λ form. roll-TypedForm (timed moment form)) (λ e. typed e.kind e.form)
      (λ f. record { sign = f.sign; part = f.part }) (λ s. record { minus = s.minus; part = s.part }) x

  -- the form at a moment, where a form is the roll of a layer, and what is made of its parts another
  by_layer : (f g : TypedForm) (x : Layer) (z : TypedForm) → f ≡ g → roll-TypedForm x ≡ g → roll-TypedForm (timed moment
      (map-TypedForm TypedForm TypedExpr TypedProductPart TypedSumPart TypedForm TypedExpr TypedProductPart TypedSumPart
      (form_at moment) (expr_at moment) folded_factor folded_summand x)) ≡ z → z ≡ form_at moment f
  by_layer f g x z is rolls made = sym made ∙ (sym (rolled x) ∙ (ap (form_at moment) rolls ∙ ap (form_at moment) (sym is)))

  pub or_at : (f : TypedForm) (parts made : List TypedExpr) → f ≡ form.Or parts → made ≡ map (expr_at moment) parts
      → form.Or made ≡ form_at moment f
  or_at f parts made is each = ap form.Or each
      ∙ by_layer f (form.Or parts) (TypedForm-F.Or parts) (form.Or (map (expr_at moment) parts)) is (form.rolls-Or parts) (form.rolls-Or (map (expr_at moment) parts))

  pub and_at : (f : TypedForm) (parts made : List TypedExpr) → f ≡ form.And parts → made ≡ map (expr_at moment) parts
      → form.And made ≡ form_at moment f
  and_at f parts made is each = ap form.And each
      ∙ by_layer f (form.And parts) (TypedForm-F.And parts) (form.And (map (expr_at moment) parts)) is (form.rolls-And parts) (form.rolls-And (map (expr_at moment) parts))

  pub not_at : (f : TypedForm) (part made : TypedExpr) → f ≡ form.Not part → made ≡ expr_at moment part
      → form.Not made ≡ form_at moment f
  not_at f part made is same = ap form.Not same
      ∙ by_layer f (form.Not part) (TypedForm-F.Not part) (form.Not (expr_at moment part)) is (form.rolls-Not part) (form.rolls-Not (expr_at moment part))

  pub is_null_at : (f : TypedForm) (part made : TypedExpr) (tests again : List Bool) → f ≡ form.IsNull part tests → made ≡ expr_at moment part → again ≡ tests
      → form.IsNull made again ≡ form_at moment f
  is_null_at f part made tests again is same copied = ap (λ e. form.IsNull e again) same ∙ (ap (form.IsNull (expr_at moment part)) copied
      ∙ by_layer f (form.IsNull part tests) (TypedForm-F.IsNull part tests) (form.IsNull (expr_at moment part) tests) is (form.rolls-IsNull part tests) (form.rolls-IsNull (expr_at moment part) tests))

  pub compare_at : (f : TypedForm) (how : Comparison) (left right a b : TypedExpr) → f ≡ form.Compare how left right → a ≡ expr_at moment left → b ≡ expr_at moment right
      → form.Compare how a b ≡ form_at moment f
  compare_at f how left right a b is same other = ap (λ e. form.Compare how e b) same ∙ (ap (form.Compare how (expr_at moment left)) other
      ∙ by_layer f (form.Compare how left right) (TypedForm-F.Compare how left right) (form.Compare how (expr_at moment left) (expr_at moment right)) is
      (form.rolls-Compare how left right) (form.rolls-Compare how (expr_at moment left) (expr_at moment right)))

  pub member_at : (f : TypedForm) (part made : TypedExpr) (negated : Bool) (entries each : List TypedExpr) → f ≡ form.Member part negated entries
      → made ≡ expr_at moment part → each ≡ map (expr_at moment) entries → form.Member made negated each ≡ form_at moment f
  member_at f part made negated entries each is same others = ap (λ e. form.Member e negated each) same ∙ (ap (form.Member (expr_at moment part) negated) others
      ∙ by_layer f (form.Member part negated entries) (TypedForm-F.Member part negated entries) (form.Member (expr_at moment part) negated (map (expr_at moment) entries)) is
      (form.rolls-Member part negated entries) (form.rolls-Member (expr_at moment part) negated (map (expr_at moment) entries)))

  pub concat_at : (f : TypedForm) (parts made : List TypedExpr) → f ≡ form.Concat parts → made ≡ map (expr_at moment) parts
      → form.Concat made ≡ form_at moment f
  concat_at f parts made is each = ap form.Concat each
      ∙ by_layer f (form.Concat parts) (TypedForm-F.Concat parts) (form.Concat (map (expr_at moment) parts)) is (form.rolls-Concat parts) (form.rolls-Concat (map (expr_at moment) parts))

  pub sum_at : (f : TypedForm) (first made : TypedExpr) (parts each : List TypedSumPart) → f ≡ form.Sum first parts
      → made ≡ expr_at moment first → each ≡ map (summand_at moment) parts → form.Sum made each ≡ form_at moment f
  sum_at f first made parts each is same others = ap (λ e. form.Sum e each) same ∙ (ap (form.Sum (expr_at moment first)) (others ∙ sym (summands_are parts))
      ∙ by_layer f (form.Sum first parts) (TypedForm-F.Sum first parts) (form.Sum (expr_at moment first) (map folded_summand parts)) is
      (form.rolls-Sum first parts) (form.rolls-Sum (expr_at moment first) (map folded_summand parts)))

  pub product_at : (f : TypedForm) (first made : TypedExpr) (parts each : List TypedProductPart) → f ≡ form.Product first parts
      → made ≡ expr_at moment first → each ≡ map (factor_at moment) parts → form.Product made each ≡ form_at moment f
  product_at f first made parts each is same others = ap (λ e. form.Product e each) same ∙ (ap (form.Product (expr_at moment first)) (others ∙ sym (factors_are parts))
      ∙ by_layer f (form.Product first parts) (TypedForm-F.Product first parts) (form.Product (expr_at moment first) (map folded_factor parts)) is
      (form.rolls-Product first parts) (form.rolls-Product (expr_at moment first) (map folded_factor parts)))

  pub minus_at : (f : TypedForm) (part made : TypedExpr) → f ≡ form.Minus part → made ≡ expr_at moment part
      → form.Minus made ≡ form_at moment f
  minus_at f part made is same = ap form.Minus same
      ∙ by_layer f (form.Minus part) (TypedForm-F.Minus part) (form.Minus (expr_at moment part)) is (form.rolls-Minus part) (form.rolls-Minus (expr_at moment part))

  pub literal_at : (f : TypedForm) (v copy : Value) → f ≡ form.Literal v → copy ≡ v → form.Literal copy ≡ form_at moment f
  literal_at f v copy is same = ap form.Literal same
      ∙ by_layer f (form.Literal v) (TypedForm-F.Literal v) (form.Literal v) is (form.rolls-Literal v) (form.rolls-Literal v)

  pub param_at : (f : TypedForm) (number : ℕ) → f ≡ form.Param number → form.Param number ≡ form_at moment f
  param_at f number is = by_layer f (form.Param number) (TypedForm-F.Param number) (form.Param number) is (form.rolls-Param number) (form.rolls-Param number)

  pub column_at : (f : TypedForm) (number : ℕ) → f ≡ form.Column number → form.Column number ≡ form_at moment f
  column_at f number is = by_layer f (form.Column number) (TypedForm-F.Column number) (form.Column number) is (form.rolls-Column number) (form.rolls-Column number)

  pub current_at : (f : TypedForm) → f ≡ form.CurrentTimestamp → form.Literal (value.Moment moment) ≡ form_at moment f
  current_at f is = by_layer f form.CurrentTimestamp TypedForm-F.CurrentTimestamp (form.Literal (value.Moment moment)) is form.rolls-CurrentTimestamp (form.rolls-Literal (value.Moment moment))

  pub now_at : (f : TypedForm) → f ≡ form.Now → form.Literal (value.Moment moment) ≡ form_at moment f
  now_at f is = by_layer f form.Now TypedForm-F.Now (form.Literal (value.Moment moment)) is form.rolls-Now (form.rolls-Literal (value.Moment moment))

  pub transaction_at : (f : TypedForm) → f ≡ form.TransactionTimestamp → form.Literal (value.Moment moment) ≡ form_at moment f
  transaction_at f is = by_layer f form.TransactionTimestamp TypedForm-F.TransactionTimestamp (form.Literal (value.Moment moment)) is form.rolls-TransactionTimestamp (form.rolls-Literal (value.Moment moment))

-- the forms
pub ruleset forms = (or_at, and_at, not_at, is_null_at, compare_at, member_at, concat_at, sum_at, product_at, minus_at, literal_at, param_at, column_at, current_at, now_at, transaction_at)

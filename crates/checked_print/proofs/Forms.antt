-- What each form of an expression is spelled as, by what its parts are.
use Rattle.std.proofs.Common.{rules, ◌≡◌, ◌∙◌, ℕ, List, [], ◌∷◌, Bool, map, ap, sym, refl}
use Rattle.std.specs.Prelude.{None}
use Rattle.pg_values.specs.declared.value.Value.{Value}
use Rattle.schema.specs.declared.catalogue.ColumnDef.{ColumnDef}
use Rattle.sql_tree.specs.declared.expr.Comparison.{Comparison}
use Rattle.sql_tree.specs.declared.expr.Expr.{Expr}
use Rattle.sql_tree.specs.declared.expr.Expr.TheVariants as expr
use Rattle.sql_tree.specs.declared.expr.SumPart.{SumPart}
use Rattle.sql_tree.specs.declared.expr.ProductPart.{ProductPart}
use Rattle.typed_sql.specs.declared.typed.TypedExpr.{TypedExpr}
use Rattle.typed_sql.specs.declared.typed.TypedForm.{TypedForm, roll-TypedForm, map-TypedForm, the_lemmas}
use Rattle.typed_sql.specs.declared.typed.TypedForm.TheOpen.{TypedForm-F}
use Rattle.typed_sql.specs.declared.typed.TypedForm.TheFolds.{fold-TypedForm, fold-TypedSumPart, fold-TypedProductPart, fold-roll-TypedForm}
use Rattle.typed_sql.specs.declared.typed.TypedForm.TheVariants as form
use Rattle.typed_sql.specs.declared.typed.TypedSumPart.{TypedSumPart}
use Rattle.typed_sql.specs.declared.typed.TypedProductPart.{TypedProductPart}
use Rattle.checked_print.specs.Spelled.{Spelling, always, factor_by, name_at, parts, spelled, spelled_factor, spelled_form, spelled_negated, spelled_summand, spelled_value, spelling, summand_by}

abbrev Layer : Type 0
Layer = TypedForm-F TypedForm TypedExpr TypedProductPart TypedSumPart

module _ (columns : List ColumnDef) where
  abbrev form_spelling : TypedForm → Spelling
  form_spelling = fold-TypedForm Spelling Spelling ProductPart SumPart (spelled_form columns) (λ e. e.form) factor_by summand_by

  abbrev folded_summand : TypedSumPart → SumPart
  folded_summand = fold-TypedSumPart Spelling Spelling ProductPart SumPart (spelled_form columns) (λ e. e.form) factor_by summand_by

  abbrev folded_factor : TypedProductPart → ProductPart
  folded_factor = fold-TypedProductPart Spelling Spelling ProductPart SumPart (spelled_form columns) (λ e. e.form) factor_by summand_by

  by_form : (e : TypedExpr) → spelling columns e ≡ form_spelling e.form
  by_form e = search (rules, the_lemmas)

  summand_is : (s : TypedSumPart) → folded_summand s ≡ spelled_summand columns s
  summand_is s = search (rules, the_lemmas)

  factor_is : (f : TypedProductPart) → folded_factor f ≡ spelled_factor columns f
  factor_is f = search (rules, the_lemmas)

  parts_are : (es : List TypedExpr) → parts (map (spelling columns) es) ≡ map (spelled columns) es
  parts_are [] = refl
  parts_are (e ∷ es) = ap (λ (more : List Expr). spelled columns e ∷ more) (parts_are es)

  summands_are : (ss : List TypedSumPart) → map folded_summand ss ≡ map (spelled_summand columns) ss
  summands_are [] = refl
  summands_are (s ∷ ss) = ap (λ (more : List SumPart). folded_summand s ∷ more) (summands_are ss)
      ∙ ap (λ (x : SumPart). x ∷ map (spelled_summand columns) ss) (summand_is s)

  factors_are : (fs : List TypedProductPart) → map folded_factor fs ≡ map (spelled_factor columns) fs
  factors_are [] = refl
  factors_are (f ∷ fs) = ap (λ (more : List ProductPart). folded_factor f ∷ more) (factors_are fs)
      ∙ ap (λ (x : ProductPart). x ∷ map (spelled_factor columns) fs) (factor_is f)

  -- an expression by the layer of its form
  by_layer : (e : TypedExpr) (f : TypedForm) (x : Layer) → e.form ≡ f → roll-TypedForm x ≡ f → spelling columns e ≡ spelled_form columns
      (map-TypedForm TypedForm TypedExpr TypedProductPart TypedSumPart Spelling Spelling ProductPart SumPart
      form_spelling (spelling columns) folded_factor folded_summand x)
  by_layer e f x is rolls = by_form e ∙ (ap form_spelling (is ∙ sym rolls)
      ∙ fold-roll-TypedForm Spelling Spelling ProductPart SumPart (spelled_form columns) (λ e. e.form) factor_by summand_by x)

  pub or_is : (e : TypedExpr) (es : List TypedExpr) → e.form ≡ form.Or es → spelling columns e ≡ always (expr.Or (map (spelled columns) es))
  or_is e es is = by_layer e (form.Or es) (TypedForm-F.Or es) is (form.rolls-Or es) ∙ ap (λ (xs : List Expr). always (expr.Or xs)) (parts_are es)

  pub and_is : (e : TypedExpr) (es : List TypedExpr) → e.form ≡ form.And es → spelling columns e ≡ always (expr.And (map (spelled columns) es))
  and_is e es is = by_layer e (form.And es) (TypedForm-F.And es) is (form.rolls-And es) ∙ ap (λ (xs : List Expr). always (expr.And xs)) (parts_are es)

  pub not_is : (e a : TypedExpr) → e.form ≡ form.Not a → spelling columns e ≡ always (expr.Not (spelled columns a))
  not_is e a is = by_layer e (form.Not a) (TypedForm-F.Not a) is (form.rolls-Not a)

  pub is_null_is : (e a : TypedExpr) (tests : List Bool) → e.form ≡ form.IsNull a tests → spelling columns e ≡ always (expr.IsNull (spelled columns a) tests)
  is_null_is e a tests is = by_layer e (form.IsNull a tests) (TypedForm-F.IsNull a tests) is (form.rolls-IsNull a tests)

  pub compare_is : (e : TypedExpr) (how : Comparison) (a b : TypedExpr) → e.form ≡ form.Compare how a b
      → spelling columns e ≡ always (expr.Compare how (spelled columns a) (spelled columns b))
  compare_is e how a b is = by_layer e (form.Compare how a b) (TypedForm-F.Compare how a b) is (form.rolls-Compare how a b)

  pub member_is : (e a : TypedExpr) (negated : Bool) (es : List TypedExpr) → e.form ≡ form.Member a negated es
      → spelling columns e ≡ always (expr.Member (spelled columns a) negated (map (spelled columns) es))
  member_is e a negated es is = by_layer e (form.Member a negated es) (TypedForm-F.Member a negated es) is (form.rolls-Member a negated es)
      ∙ ap (λ (xs : List Expr). always (expr.Member (spelled columns a) negated xs)) (parts_are es)

  pub concat_is : (e : TypedExpr) (es : List TypedExpr) → e.form ≡ form.Concat es → spelling columns e ≡ always (expr.Concat (map (spelled columns) es))
  concat_is e es is = by_layer e (form.Concat es) (TypedForm-F.Concat es) is (form.rolls-Concat es)
      ∙ ap (λ (xs : List Expr). always (expr.Concat xs)) (parts_are es)

  pub sum_is : (e a : TypedExpr) (ss : List TypedSumPart) → e.form ≡ form.Sum a ss
      → spelling columns e ≡ always (expr.Sum (spelled columns a) (map (spelled_summand columns) ss))
  sum_is e a ss is = by_layer e (form.Sum a ss) (TypedForm-F.Sum a ss) is (form.rolls-Sum a ss)
      ∙ ap (λ (xs : List SumPart). always (expr.Sum (spelled columns a) xs)) (summands_are ss)

  pub product_is : (e a : TypedExpr) (fs : List TypedProductPart) → e.form ≡ form.Product a fs
      → spelling columns e ≡ always (expr.Product (spelled columns a) (map (spelled_factor columns) fs))
  product_is e a fs is = by_layer e (form.Product a fs) (TypedForm-F.Product a fs) is (form.rolls-Product a fs)
      ∙ ap (λ (xs : List ProductPart). always (expr.Product (spelled columns a) xs)) (factors_are fs)

  pub minus_is : (e a : TypedExpr) → e.form ≡ form.Minus a → spelling columns e ≡ always (expr.Minus (spelled_negated columns a))
  minus_is e a is = by_layer e (form.Minus a) (TypedForm-F.Minus a) is (form.rolls-Minus a)

  pub literal_is : (e : TypedExpr) (v : Value) → e.form ≡ form.Literal v → spelling columns e ≡ spelled_value v
  literal_is e v is = by_layer e (form.Literal v) (TypedForm-F.Literal v) is (form.rolls-Literal v)

  pub param_is : (e : TypedExpr) (n : ℕ) → e.form ≡ form.Param n → spelling columns e ≡ always (expr.Param n)
  param_is e n is = by_layer e (form.Param n) (TypedForm-F.Param n) is (form.rolls-Param n)

  pub column_is : (e : TypedExpr) (n : ℕ) → e.form ≡ form.Column n → spelling columns e ≡ always (expr.Column None (name_at columns n))
  column_is e n is = by_layer e (form.Column n) (TypedForm-F.Column n) is (form.rolls-Column n)

  pub current_is : (e : TypedExpr) → e.form ≡ form.CurrentTimestamp → spelling columns e ≡ always expr.CurrentTimestamp
  current_is e is = by_layer e form.CurrentTimestamp TypedForm-F.CurrentTimestamp is form.rolls-CurrentTimestamp

  pub now_is : (e : TypedExpr) → e.form ≡ form.Now → spelling columns e ≡ always expr.Now
  now_is e is = by_layer e form.Now TypedForm-F.Now is form.rolls-Now

  pub transaction_is : (e : TypedExpr) → e.form ≡ form.TransactionTimestamp → spelling columns e ≡ always expr.TransactionTimestamp
  transaction_is e is = by_layer e form.TransactionTimestamp TypedForm-F.TransactionTimestamp is form.rolls-TransactionTimestamp

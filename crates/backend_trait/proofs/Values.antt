-- What an expression of the right types comes to on a row of the right types has the type of the expression.
use Rattle.std.proofs.Common.{rules, ◌≡◌, ◌∙◌, ℕ, zero, suc, pos, List, [], ◌∷◌, map, refl, ap, sym, subst}
use Rattle.std.specs.Prelude.{◌&&◌, true, false, Ok, slice_get}
use Rattle.std.specs.List.{list_all}
use Rattle.pg_values.specs.declared.col_type.ColType.{ColType}
use Rattle.pg_values.specs.declared.col_type.ColType.TheVariants.{Bool, Text, Moment}
use Rattle.pg_values.specs.declared.value.Value.{Value}
use Rattle.pg_values.specs.declared.value.Value.TheVariants as value
use Rattle.schema.specs.declared.catalogue.ColumnDef.{ColumnDef}
use Rattle.typed_sql.specs.declared.asks.Takes.{Takes}
use Rattle.typed_sql.specs.declared.asks.Takes.TheVariants.{Any, Whole, Like}
use Rattle.typed_sql.specs.declared.typed.TypedExpr.{TypedExpr}
use Rattle.typed_sql.specs.declared.typed.TypedForm.{TypedForm, roll-TypedForm, map-TypedForm, the_lemmas}
use Rattle.typed_sql.specs.declared.typed.TypedForm.TheOpen.{TypedForm-F, TypedExpr-F, TypedProductPart-F, TypedSumPart-F}
use Rattle.typed_sql.specs.declared.typed.TypedForm.TheFolds.{fold-TypedForm, fold-TypedProductPart, fold-TypedSumPart, fold-roll-TypedForm, ind-TypedExpr}
use Rattle.typed_sql.specs.declared.typed.TypedForm.TheVariants as form
use Rattle.typed_sql.specs.declared.typed.TypedSumPart.{TypedSumPart}
use Rattle.typed_sql.specs.declared.typed.TypedProductPart.{TypedProductPart}
use Rattle.typed_sql.specs.Places.{are_alike, same_kind, takes as takes_kind}
use Rattle.checked_sql.specs.Sound.{Names, are_fit, chain_kind, form_in, has_column, has_one, has_this, has_two, is_parameter, is_sound, is_value, stands}
use Rattle.checked_sql.specs.OfCatalogue.{around}
use Rattle.checked_sql.proofs.Forms.{fits_concat, fits_is_null, fits_minus, fits_product, fits_sum, gives_and, gives_column, gives_compare, gives_concat, gives_current, gives_is_null, gives_literal, gives_member, gives_minus, gives_not, gives_now, gives_or, gives_param, gives_product, gives_sum, gives_transaction, sound_by_form}
use Rattle.sql_values.specs.Outcome.{Outcome, behind, chained, made, of_both}
use Rattle.sql_values.specs.Meaning.{Around, Factor, Summand, outcome_of, product_of, sum_of, text_of, value_in}
use Rattle.sql_values.specs.Arithmetic.{calculated, multiplied, negative, summed}
use Rattle.sql_values.specs.Logic.{junction, member, opposite, tested}
use Rattle.sql_values.specs.Order.{compared}
use Rattle.backend_trait.specs.Typed.{IsOutcomeOf, kinds_of}
use Rattle.backend_trait.proofs.Truths.{Each, and_true, each_of, fit_or_null, same_is}
use Rattle.backend_trait.proofs.Numbers.{IsWholePart, chain_typed, negative_typed}
use Rattle.backend_trait.proofs.Junctions.{compare_typed, junction_typed, member_typed, not_typed, tests_typed}
use Rattle.backend_trait.proofs.Texts.{text_typed}

-- a column of a type is one of the types of the columns
column_kind : (columns : List ColumnDef) (at : ℕ) (kind : ColType) → has_column kind (slice_get columns at) ≡ true → has_this kind (slice_get (kinds_of columns) at) ≡ true
column_kind [] at kind is = absurd (let f : false ≡ true = is in cc)
column_kind (c ∷ columns) zero kind is = is
column_kind (c ∷ columns) (suc at) kind is = column_kind columns at kind is

no_parameter : (n : ℕ) (kind : ColType) → is_parameter [] n kind ≡ true → ⊥
no_parameter zero kind is = let f : false ≡ true = is in cc
no_parameter (suc at) kind is = let f : false ≡ true = is in cc

alike_text : (k : ColType) → are_alike Text k ≡ true → k ≡ Text
alike_text Text e = refl
alike_text k e = absurd (cc)

-- the moment that stands round a statement is one
zero_moment : is_value Moment (value.Moment (pos 0)) ≡ true
zero_moment = refl

module _ (columns : List ColumnDef) (row : List Value) (fit : are_fit (kinds_of columns) row ≡ true) where
  abbrev names : Names
  names = around columns []

  abbrev here : Around
  here = record { row = row; parameters = []; moment = pos 0 }

  abbrev form_value : TypedForm → Outcome
  form_value = fold-TypedForm Outcome Outcome Factor Summand (outcome_of here) (λ e. e.form) (λ f. (f.sign, f.part)) (λ s. (s.minus, s.part))

  abbrev expr_value : TypedExpr → Outcome
  expr_value = value_in here

  abbrev factor_value : TypedProductPart → Factor
  factor_value = fold-TypedProductPart Outcome Outcome Factor Summand (outcome_of here) (λ e. e.form) (λ f. (f.sign, f.part)) (λ s. (s.minus, s.part))

  abbrev summand_value : TypedSumPart → Summand
  summand_value = fold-TypedSumPart Outcome Outcome Factor Summand (outcome_of here) (λ e. e.form) (λ f. (f.sign, f.part)) (λ s. (s.minus, s.part))

  value_by_form : (e : TypedExpr) → expr_value e ≡ form_value e.form
  value_by_form e = search (rules, the_lemmas)

  factor_value_is : (f : TypedProductPart) → factor_value f ≡ (f.sign, expr_value f.part)
  factor_value_is f = search (rules, the_lemmas)

  summand_value_is : (s : TypedSumPart) → summand_value s ≡ (s.minus, expr_value s.part)
  summand_value_is s = search (rules, the_lemmas)

  abbrev Layer : Type 0
  Layer = TypedForm-F TypedForm TypedExpr TypedProductPart TypedSumPart

  value_rolled : (x : Layer) → form_value (roll-TypedForm x)
      ≡ outcome_of here (map-TypedForm TypedForm TypedExpr TypedProductPart TypedSumPart Outcome Outcome Factor Summand form_value expr_value factor_value summand_value x)
  value_rolled x = fold-roll-TypedForm Outcome Outcome Factor Summand (outcome_of here) (λ e. e.form) (λ f. (f.sign, f.part)) (λ s. (s.minus, s.part)) x

  -- an expression whose nodes have their types comes to a value of its type
  abbrev pub IsTyped : TypedExpr → Type 0
  IsTyped e = is_sound names e ≡ true → IsOutcomeOf e.kind (expr_value e)

  abbrev IsTypedForm : TypedForm → Type 0
  IsTypedForm f = (kind : ColType) → (form_in names f).gives kind ≡ true → (form_in names f).fits ≡ true → IsOutcomeOf kind (form_value f)

  typed_expr : (e : TypedExpr) → IsTypedForm e.form → IsTyped e
  typed_expr e is sound =
      let both = and_true ((form_in names e.form).gives e.kind) (form_in names e.form).fits (sym (sound_by_form names e) ∙ sound) in
      subst (λ (o : Outcome). IsOutcomeOf e.kind o) (sym (value_by_form e)) (is e.kind both.0 both.1)

  -- what comes to an outcome of a type that is the one that is given
  by_kind : (given kind : ColType) (o p : Outcome) → same_kind given kind ≡ true → o ≡ p → IsOutcomeOf given p → IsOutcomeOf kind o
  by_kind given kind o p same is typed =
      subst (λ (x : Outcome). IsOutcomeOf kind x) (sym is) (subst (λ (k : ColType). IsOutcomeOf k p) (same_is given kind same) typed)

  -- a part that may stand where it stands
  part_typed : (t : Takes) (e : TypedExpr) → IsTyped e → stands names t e ≡ true → (takes_kind t e.kind ≡ true) × IsOutcomeOf e.kind (expr_value e)
  part_typed t e typed is = let both = and_true (takes_kind t e.kind) (is_sound names e) is in (both.0, typed both.1)

  texts_typed : (es : List TypedExpr) → Each IsTyped es → list_all (stands names (Like Text)) es ≡ true → Each (IsOutcomeOf Text) (map expr_value es)
  texts_typed [] each is = tt
  texts_typed (e ∷ es) each is =
      let both = and_true (stands names (Like Text) e) (list_all (stands names (Like Text)) es) is in
      let one = part_typed (Like Text) e each.0 both.0 in
      (subst (λ (k : ColType). IsOutcomeOf k (expr_value e)) (alike_text e.kind one.0) one.1, texts_typed es each.1 both.1)

  summands_typed : (ss : List TypedSumPart) → Each (λ s. IsTyped s.part) ss → list_all (λ s. stands names Whole s.part) ss ≡ true
      → Each (IsWholePart (λ (s : TypedSumPart). summed s.minus) (λ s. expr_value s.part) (λ s. s.part.kind)) ss
  summands_typed [] each is = tt
  summands_typed (s ∷ ss) each is =
      let both = and_true (stands names Whole s.part) (list_all (λ s. stands names Whole s.part) ss) is in
      (part_typed Whole s.part each.0 both.0, summands_typed ss each.1 both.1)

  factors_typed : (fs : List TypedProductPart) → Each (λ f. IsTyped f.part) fs → list_all (λ f. stands names Whole f.part) fs ≡ true
      → Each (IsWholePart (λ (f : TypedProductPart). multiplied f.sign) (λ f. expr_value f.part) (λ f. f.part.kind)) fs
  factors_typed [] each is = tt
  factors_typed (f ∷ fs) each is =
      let both = and_true (stands names Whole f.part) (list_all (λ f. stands names Whole f.part) fs) is in
      (part_typed Whole f.part each.0 both.0, factors_typed fs each.1 both.1)

  -- a chain over the parts is one over their values
  sums_are : (o : Outcome) (ss : List TypedSumPart) → sum_of o (map summand_value ss) ≡ chained (λ (s : TypedSumPart). expr_value s.part) (λ s. calculated (summed s.minus)) o ss
  sums_are o [] = refl
  sums_are o (s ∷ ss) =
      ap (λ (p : Summand). sum_of (of_both (calculated (summed p.0)) o p.1) (map summand_value ss)) (summand_value_is s)
      ∙ sums_are (of_both (calculated (summed s.minus)) o (expr_value s.part)) ss

  products_are : (o : Outcome) (fs : List TypedProductPart) → product_of o (map factor_value fs) ≡ chained (λ (f : TypedProductPart). expr_value f.part) (λ f. calculated (multiplied f.sign)) o fs
  products_are o [] = refl
  products_are o (f ∷ fs) =
      ap (λ (p : Factor). product_of (of_both (calculated (multiplied p.0)) o p.1) (map factor_value fs)) (factor_value_is f)
      ∙ products_are (of_both (calculated (multiplied f.sign)) o (expr_value f.part)) fs

  module _ {F E P S : Type 0} (f_of : F → TypedForm) (e_of : E → TypedExpr) (p_of : P → TypedProductPart) (s_of : S → TypedSumPart) (ex : (x : E) → IsTyped (e_of x)) (py : (y : P) → IsTyped (p_of y).part) (sz : (z : S) → IsTyped (s_of z).part) where
    layer : (y : TypedForm-F F E P S) → IsTypedForm (roll-TypedForm (map-TypedForm F E P S TypedForm TypedExpr TypedProductPart TypedSumPart f_of e_of p_of s_of y))
    layer (TypedForm-F.Or parts) = λ kind gives fits.
        let es = map e_of parts in
        let f = roll-TypedForm (TypedForm-F.Or es) in
        by_kind Bool kind (form_value f) (junction true (map expr_value es)) (sym (gives_or names f kind es (form.rolls-Or es)) ∙ gives)
        (value_rolled (TypedForm-F.Or es)) (junction_typed true (map expr_value es))
    layer (TypedForm-F.And parts) = λ kind gives fits.
        let es = map e_of parts in
        let f = roll-TypedForm (TypedForm-F.And es) in
        by_kind Bool kind (form_value f) (junction false (map expr_value es)) (sym (gives_and names f kind es (form.rolls-And es)) ∙ gives)
        (value_rolled (TypedForm-F.And es)) (junction_typed false (map expr_value es))
    layer (TypedForm-F.Not x) = λ kind gives fits.
        let e = e_of x in
        let f = roll-TypedForm (TypedForm-F.Not e) in
        by_kind Bool kind (form_value f) (made opposite (expr_value e)) (sym (gives_not names f kind e (form.rolls-Not e)) ∙ gives)
        (value_rolled (TypedForm-F.Not e)) (not_typed (expr_value e))
    layer (TypedForm-F.IsNull x ts) = λ kind gives fits.
        let e = e_of x in
        let f = roll-TypedForm (TypedForm-F.IsNull e ts) in
        by_kind Bool kind (form_value f) (made (λ v. tested v ts) (expr_value e)) (sym (gives_is_null names f kind e ts (form.rolls-IsNull e ts)) ∙ gives)
        (value_rolled (TypedForm-F.IsNull e ts))
        (tests_typed (expr_value e) ts (and_true (has_one ts) (stands names Any e) (sym (fits_is_null names f e ts (form.rolls-IsNull e ts)) ∙ fits)).0)
    layer (TypedForm-F.Compare how x y) = λ kind gives fits.
        let a = e_of x in
        let b = e_of y in
        let f = roll-TypedForm (TypedForm-F.Compare how a b) in
        by_kind Bool kind (form_value f) (of_both (λ u v. Ok (compared how u v)) (expr_value a) (expr_value b))
        (sym (gives_compare names f kind how a b (form.rolls-Compare how a b)) ∙ gives) (value_rolled (TypedForm-F.Compare how a b))
        (compare_typed how (expr_value a) (expr_value b))
    layer (TypedForm-F.Member x negated parts) = λ kind gives fits.
        let e = e_of x in
        let es = map e_of parts in
        let f = roll-TypedForm (TypedForm-F.Member e negated es) in
        by_kind Bool kind (form_value f) (member negated (expr_value e) (map expr_value es))
        (sym (gives_member names f kind e negated es (form.rolls-Member e negated es)) ∙ gives) (value_rolled (TypedForm-F.Member e negated es))
        (member_typed negated (expr_value e) (map expr_value es))
    layer (TypedForm-F.Concat parts) = λ kind gives fits.
        let es = map e_of parts in
        let f = roll-TypedForm (TypedForm-F.Concat es) in
        by_kind Text kind (form_value f) (text_of (map expr_value es)) (sym (gives_concat names f kind es (form.rolls-Concat es)) ∙ gives)
        (value_rolled (TypedForm-F.Concat es))
        (text_typed (map expr_value es) (texts_typed es (each_of e_of IsTyped ex parts) (and_true (has_two es) (list_all (stands names (Like Text)) es) (sym (fits_concat names f es (form.rolls-Concat es)) ∙ fits)).1))
    layer (TypedForm-F.Sum x parts) = λ kind gives fits.
        let e = e_of x in
        let ss = map s_of parts in
        let f = roll-TypedForm (TypedForm-F.Sum e ss) in
        let stood = and_true (stands names Whole e) (has_one ss && list_all (λ s. stands names Whole s.part) ss) (sym (fits_sum names f e ss (form.rolls-Sum e ss)) ∙ fits) in
        let further = and_true (has_one ss) (list_all (λ s. stands names Whole s.part) ss) stood.1 in
        let first = part_typed Whole e (ex x) stood.0 in
        by_kind (chain_kind e.kind (map (λ s. s.part.kind) ss)) kind (form_value f)
        (chained (λ (s : TypedSumPart). expr_value s.part) (λ s. calculated (summed s.minus)) (expr_value e) ss)
        (sym (gives_sum names f kind e ss (form.rolls-Sum e ss)) ∙ gives)
        (value_rolled (TypedForm-F.Sum e ss) ∙ sums_are (expr_value e) ss)
        (chain_typed (λ (s : TypedSumPart). summed s.minus) (λ s. expr_value s.part) (λ s. s.part.kind) ss e.kind (expr_value e) first.0 first.1
        (summands_typed ss (each_of s_of (λ s. IsTyped s.part) sz parts) further.1))
    layer (TypedForm-F.Product x parts) = λ kind gives fits.
        let e = e_of x in
        let fs = map p_of parts in
        let f = roll-TypedForm (TypedForm-F.Product e fs) in
        let stood = and_true (stands names Whole e) (has_one fs && list_all (λ f. stands names Whole f.part) fs) (sym (fits_product names f e fs (form.rolls-Product e fs)) ∙ fits) in
        let further = and_true (has_one fs) (list_all (λ f. stands names Whole f.part) fs) stood.1 in
        let first = part_typed Whole e (ex x) stood.0 in
        by_kind (chain_kind e.kind (map (λ f. f.part.kind) fs)) kind (form_value f)
        (chained (λ (f : TypedProductPart). expr_value f.part) (λ f. calculated (multiplied f.sign)) (expr_value e) fs)
        (sym (gives_product names f kind e fs (form.rolls-Product e fs)) ∙ gives)
        (value_rolled (TypedForm-F.Product e fs) ∙ products_are (expr_value e) fs)
        (chain_typed (λ (f : TypedProductPart). multiplied f.sign) (λ f. expr_value f.part) (λ f. f.part.kind) fs e.kind (expr_value e) first.0 first.1
        (factors_typed fs (each_of p_of (λ f. IsTyped f.part) py parts) further.1))
    layer (TypedForm-F.Minus x) = λ kind gives fits.
        let e = e_of x in
        let f = roll-TypedForm (TypedForm-F.Minus e) in
        let first = part_typed Whole e (ex x) (sym (fits_minus names f e (form.rolls-Minus e)) ∙ fits) in
        by_kind e.kind kind (form_value f) (behind (expr_value e) negative) (sym (gives_minus names f kind e (form.rolls-Minus e)) ∙ gives)
        (value_rolled (TypedForm-F.Minus e)) (negative_typed e.kind (expr_value e) first.0 first.1)
    layer (TypedForm-F.Literal v) = λ kind gives fits.
        let f = roll-TypedForm (TypedForm-F.Literal v) in
        subst (λ (o : Outcome). IsOutcomeOf kind o) (sym (value_rolled (TypedForm-F.Literal v))) (sym (gives_literal names f kind v (form.rolls-Literal v)) ∙ gives)
    layer (TypedForm-F.Param n) = λ kind gives fits.
        let f = roll-TypedForm (TypedForm-F.Param n) in
        absurd (no_parameter n kind (sym (gives_param names f kind n (form.rolls-Param n)) ∙ gives))
    layer (TypedForm-F.Column n) = λ kind gives fits.
        let f = roll-TypedForm (TypedForm-F.Column n) in
        subst (λ (o : Outcome). IsOutcomeOf kind o) (sym (value_rolled (TypedForm-F.Column n)))
        (fit_or_null (kinds_of columns) row n kind fit (column_kind columns n kind (sym (gives_column names f kind n (form.rolls-Column n)) ∙ gives)))
    layer TypedForm-F.CurrentTimestamp = λ kind gives fits.
        let f = roll-TypedForm TypedForm-F.CurrentTimestamp in
        by_kind Moment kind (form_value f) (Ok (value.Moment (pos 0))) (sym (gives_current names f kind form.rolls-CurrentTimestamp) ∙ gives)
        (value_rolled TypedForm-F.CurrentTimestamp) zero_moment
    layer TypedForm-F.Now = λ kind gives fits.
        let f = roll-TypedForm TypedForm-F.Now in
        by_kind Moment kind (form_value f) (Ok (value.Moment (pos 0))) (sym (gives_now names f kind form.rolls-Now) ∙ gives)
        (value_rolled TypedForm-F.Now) zero_moment
    layer TypedForm-F.TransactionTimestamp = λ kind gives fits.
        let f = roll-TypedForm TypedForm-F.TransactionTimestamp in
        by_kind Moment kind (form_value f) (Ok (value.Moment (pos 0))) (sym (gives_transaction names f kind form.rolls-TransactionTimestamp) ∙ gives)
        (value_rolled TypedForm-F.TransactionTimestamp) zero_moment

  pub value_typed : (e : TypedExpr) → IsTyped e
  value_typed = ind-TypedExpr IsTypedForm IsTyped (λ f. IsTyped f.part) (λ s. IsTyped s.part)
      (λ x y is. subst (λ (z : Layer). IsTypedForm (roll-TypedForm z)) is
      (layer (λ f. f.0) (λ e. e.0) (λ p. p.0) (λ s. s.0) (λ e. e.1) (λ p. p.1) (λ s. s.1) y))
      (λ x y is. typed_expr _ (subst (λ (z : TypedExpr-F TypedForm TypedExpr TypedProductPart TypedSumPart). IsTypedForm z.form) is y.form.1))
      (λ x y is. subst (λ (z : TypedProductPart-F TypedForm TypedExpr TypedProductPart TypedSumPart). IsTyped z.part) is y.part.1)
      (λ x y is. subst (λ (z : TypedSumPart-F TypedForm TypedExpr TypedProductPart TypedSumPart). IsTyped z.part) is y.part.1)

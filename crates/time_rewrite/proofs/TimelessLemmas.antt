-- At a moment no time function is left, nor a cell that takes the moment.
use Rattle.std.proofs.Common.{rules, ◌≡◌, ◌∙◌, ℤ, List, [], ◌∷◌, map, ap, sym, subst, refl}
use Rattle.std.specs.Prelude.{◌&&◌, Bool as Truth, true, Option, Some, None, option_map}
use Rattle.std.specs.List.{list_all}
use Rattle.pg_values.specs.declared.col_type.ColType.TheVariants as kind
use Rattle.pg_values.specs.declared.value.Value.{Value}
use Rattle.pg_values.specs.declared.value.Value.TheVariants as value
use Rattle.typed_sql.specs.declared.typed.TypedExpr.{TypedExpr}
use Rattle.typed_sql.specs.declared.typed.TypedForm.TheVariants as form
use Rattle.typed_sql.specs.Typing.{literal}
use Rattle.typed_sql.specs.declared.typed.TypedForm.{TypedForm, roll-TypedForm, map-TypedForm, the_lemmas}
use Rattle.typed_sql.specs.declared.typed.TypedForm.TheOpen.{TypedForm-F, TypedExpr-F, TypedProductPart-F, TypedSumPart-F}
use Rattle.typed_sql.specs.declared.typed.TypedForm.TheFolds.{fold-TypedForm, fold-TypedExpr, fold-TypedProductPart, fold-TypedSumPart, fold-roll-TypedForm, ind-TypedExpr}
use Rattle.typed_sql.specs.declared.typed.TypedSumPart.{TypedSumPart}
use Rattle.typed_sql.specs.declared.typed.TypedProductPart.{TypedProductPart}
use Rattle.catalogue.specs.declared.checked.Checked.{Checked}
use Rattle.catalogue.specs.declared.checked.CheckedBody.{CheckedBody}
use Rattle.catalogue.specs.declared.checked.CheckedBody.TheVariants as body
use Rattle.catalogue.specs.declared.checked.TypedCell.{TypedCell}
use Rattle.catalogue.specs.declared.checked.TypedCell.TheVariants as cell
use Rattle.time_rewrite.specs.Rewriting.{timed, expr_at, cell_at, set_at, body_at, at_moment}
use Rattle.time_rewrite.specs.Timeless.{timeless_form, timeless_expr, timeless_option, timeless_cell, timeless_body, is_timeless}
use Rattle.time_rewrite.proofs.Folding.{folded_same}

-- of two that are true, and of a list of those that are
both : (a b : Truth) → a ≡ true → b ≡ true → (a && b) ≡ true
both a b x y = ap (λ (t : Truth). t && b) x ∙ y

all_true : {A B : Type 0} (test : B → Truth) (of : A → B) → ((a : A) → test (of a) ≡ true) → (xs : List A) → list_all test (map of xs) ≡ true
all_true test of each [] = refl
all_true test of each (x ∷ xs) = both (test (of x)) (list_all test (map of xs)) (each x) (all_true test of each xs)

all_folded : {X A : Type 0} (of : X → A) (test : A → Truth) → ((x : X) → test (of x) ≡ true) → (xs : List X) → list_all (λ b. b) (map test (map of xs)) ≡ true
all_folded of test each [] = refl
all_folded of test each (x ∷ xs) = both (test (of x)) (list_all (λ b. b) (map test (map of xs))) (each x) (all_folded of test each xs)

-- a literal is no time function
literal_timeless : (v : Value) → timeless_expr (literal kind.Moment v) ≡ true
literal_timeless v =
    let by_form : timeless_expr (literal kind.Moment v) ≡ fold-TypedForm Truth Truth Truth Truth timeless_form (λ e. e.form) (λ f. f.part) (λ s. s.part) (form.Literal v) = search (rules, the_lemmas) in
    by_form ∙ (ap (fold-TypedForm Truth Truth Truth Truth timeless_form (λ e. e.form) (λ f. f.part) (λ s. s.part)) (sym (form.rolls-Literal v))
    ∙ fold-roll-TypedForm Truth Truth Truth Truth timeless_form (λ e. e.form) (λ f. f.part) (λ s. s.part) (TypedForm-F.Literal v))

module _ (moment : ℤ) where
  -- an expression whose time functions count as literals
  abbrev left_form : TypedForm → Truth
  left_form = fold-TypedForm Truth Truth Truth Truth (λ x. timeless_form (timed moment x)) (λ e. e.form) (λ f. f.part) (λ s. s.part)

  abbrev left_expr : TypedExpr → Truth
  left_expr = fold-TypedExpr Truth Truth Truth Truth (λ x. timeless_form (timed moment x)) (λ e. e.form) (λ f. f.part) (λ s. s.part)

  abbrev left_factor : TypedProductPart → Truth
  left_factor = fold-TypedProductPart Truth Truth Truth Truth (λ x. timeless_form (timed moment x)) (λ e. e.form) (λ f. f.part) (λ s. s.part)

  abbrev left_summand : TypedSumPart → Truth
  left_summand = fold-TypedSumPart Truth Truth Truth Truth (λ x. timeless_form (timed moment x)) (λ e. e.form) (λ f. f.part) (λ s. s.part)

  module _ {X Y Z W : Type 0} (f_of : X → TypedForm) (e_of : Y → TypedExpr) (p_of : Z → TypedProductPart) (s_of : W → TypedSumPart) (ey : (y : Y) → left_expr (e_of y) ≡ true) (pz : (z : Z) → left_factor (p_of z) ≡ true) (sw : (w : W) → left_summand (s_of w) ≡ true) where
    parts_true : (y : TypedForm-F X Y Z W) → timeless_form (timed moment
        (map-TypedForm TypedForm TypedExpr TypedProductPart TypedSumPart Truth Truth Truth Truth left_form left_expr left_factor left_summand
        (map-TypedForm X Y Z W TypedForm TypedExpr TypedProductPart TypedSumPart f_of e_of p_of s_of y))) ≡ true
    parts_true (TypedForm-F.Or parts) = all_folded e_of left_expr ey parts
    parts_true (TypedForm-F.And parts) = all_folded e_of left_expr ey parts
    parts_true (TypedForm-F.Not part) = ey part
    parts_true (TypedForm-F.IsNull part tests) = ey part
    parts_true (TypedForm-F.Compare how left right) = both (left_expr (e_of left)) (left_expr (e_of right)) (ey left) (ey right)
    parts_true (TypedForm-F.Member part negated entries) =
        both (left_expr (e_of part)) (list_all (λ b. b) (map left_expr (map e_of entries))) (ey part) (all_folded e_of left_expr ey entries)
    parts_true (TypedForm-F.Concat parts) = all_folded e_of left_expr ey parts
    parts_true (TypedForm-F.Sum first parts) =
        both (left_expr (e_of first)) (list_all (λ b. b) (map left_summand (map s_of parts))) (ey first) (all_folded s_of left_summand sw parts)
    parts_true (TypedForm-F.Product first parts) =
        both (left_expr (e_of first)) (list_all (λ b. b) (map left_factor (map p_of parts))) (ey first) (all_folded p_of left_factor pz parts)
    parts_true (TypedForm-F.Minus part) = ey part
    parts_true (TypedForm-F.Literal v) = refl
    parts_true (TypedForm-F.Param number) = refl
    parts_true (TypedForm-F.Column number) = refl
    parts_true TypedForm-F.CurrentTimestamp = refl
    parts_true TypedForm-F.Now = refl
    parts_true TypedForm-F.TransactionTimestamp = refl

    form_true : (y : TypedForm-F X Y Z W) → left_form (roll-TypedForm (map-TypedForm X Y Z W TypedForm TypedExpr TypedProductPart TypedSumPart f_of e_of p_of s_of y)) ≡ true
    form_true y =
        fold-roll-TypedForm Truth Truth Truth Truth (λ x. timeless_form (timed moment x)) (λ e. e.form) (λ f. f.part) (λ s. s.part)
        (map-TypedForm X Y Z W TypedForm TypedExpr TypedProductPart TypedSumPart f_of e_of p_of s_of y) ∙ parts_true y

  left_expr_is : (e : TypedExpr) → left_expr e ≡ left_form e.form
  left_expr_is e = search (rules, the_lemmas)

  left_factor_is : (f : TypedProductPart) → left_factor f ≡ left_expr f.part
  left_factor_is f = search (rules, the_lemmas)

  left_summand_is : (s : TypedSumPart) → left_summand s ≡ left_expr s.part
  left_summand_is s = search (rules, the_lemmas)

  none_left : (e : TypedExpr) → left_expr e ≡ true
  none_left = ind-TypedExpr (λ f. left_form f ≡ true) (λ e. left_expr e ≡ true) (λ p. left_factor p ≡ true) (λ s. left_summand s ≡ true)
      (λ x y is. subst (λ (z : TypedForm-F TypedForm TypedExpr TypedProductPart TypedSumPart). left_form (roll-TypedForm z) ≡ true) is
      (form_true (λ f. f.0) (λ e. e.0) (λ p. p.0) (λ s. s.0) (λ e. e.1) (λ p. p.1) (λ s. s.1) y))
      (λ x y is. left_expr_is _ ∙ subst (λ (z : TypedExpr-F TypedForm TypedExpr TypedProductPart TypedSumPart). left_form z.form ≡ true) is y.form.1)
      (λ x y is. left_factor_is _ ∙ subst (λ (z : TypedProductPart-F TypedForm TypedExpr TypedProductPart TypedSumPart). left_expr z.part ≡ true) is y.part.1)
      (λ x y is. left_summand_is _ ∙ subst (λ (z : TypedSumPart-F TypedForm TypedExpr TypedProductPart TypedSumPart). left_expr z.part ≡ true) is y.part.1)

  expr_timeless : (e : TypedExpr) → timeless_expr (expr_at moment e) ≡ true
  expr_timeless e = folded_same moment timeless_form (λ e. e.form) (λ f. f.part) (λ s. s.part) e ∙ none_left e

  option_timeless : (e : Option TypedExpr) → timeless_option (option_map (expr_at moment) e) ≡ true
  option_timeless None = refl
  option_timeless (Some e) = expr_timeless e

  cell_timeless : (c : TypedCell) → timeless_cell (cell_at moment c) ≡ true
  cell_timeless cell.Serial = refl
  cell_timeless cell.Now = literal_timeless (value.Moment moment)
  cell_timeless (cell.Given e) = expr_timeless e

  body_timeless : (b : CheckedBody) → timeless_body (body_at moment b) ≡ true
  body_timeless (body.Read read) =
      both (list_all timeless_expr (map (expr_at moment) read.list)) (timeless_option (option_map (expr_at moment) read.filter) && timeless_option (option_map (expr_at moment) read.limit))
      (all_true timeless_expr (expr_at moment) expr_timeless read.list)
      (both (timeless_option (option_map (expr_at moment) read.filter)) (timeless_option (option_map (expr_at moment) read.limit)) (option_timeless read.filter) (option_timeless read.limit))
  body_timeless (body.Insert insert) =
      all_true (list_all timeless_cell) (map (cell_at moment)) (all_true timeless_cell (cell_at moment) cell_timeless) insert.rows
  body_timeless (body.Change change) =
      both (list_all (λ s. timeless_expr s.expr) (map (set_at moment) change.sets)) (timeless_option (option_map (expr_at moment) change.filter))
      (all_true (λ s. timeless_expr s.expr) (set_at moment) (λ s. expr_timeless s.expr) change.sets) (option_timeless change.filter)
  body_timeless (body.Remove remove) = option_timeless remove.filter

  statement_timeless : (checked : Checked) → is_timeless (at_moment moment checked) ≡ true
  statement_timeless checked = body_timeless checked.body

pub made_timeless : (moment : ℤ) (checked made : Checked) → made ≡ at_moment moment checked → is_timeless made ≡ true
made_timeless moment checked made is = ap is_timeless is ∙ statement_timeless moment checked

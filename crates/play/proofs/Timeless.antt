-- A statement without time functions is the same at each moment.
use Rattle.std.proofs.Common.{rules, ◌≡◌, ◌∙◌, ℤ, List, [], ◌∷◌, map, ap, sym, subst, refl}
use Rattle.std.specs.Prelude.{◌&&◌, Bool as Truth, true, false, Option, Some, None, option_map}
use Rattle.std.specs.List.{list_all}
use Rattle.typed_sql.specs.declared.typed.TypedExpr.{TypedExpr}
use Rattle.typed_sql.specs.declared.typed.TypedForm.{TypedForm, roll-TypedForm, map-TypedForm, the_lemmas}
use Rattle.typed_sql.specs.declared.typed.TypedForm.TheOpen.{TypedForm-F, TypedExpr-F, TypedProductPart-F, TypedSumPart-F}
use Rattle.typed_sql.specs.declared.typed.TypedForm.TheFolds.{fold-TypedForm, fold-TypedProductPart, fold-TypedSumPart, fold-roll-TypedForm, ind-TypedExpr}
use Rattle.typed_sql.specs.declared.typed.TypedSumPart.{TypedSumPart}
use Rattle.typed_sql.specs.declared.typed.TypedProductPart.{TypedProductPart}
use Rattle.typed_sql.specs.Typing.{typed}
use Rattle.catalogue.specs.declared.checked.Checked.{Checked}
use Rattle.catalogue.specs.declared.checked.CheckedBody.{CheckedBody}
use Rattle.catalogue.specs.declared.checked.CheckedBody.TheVariants as body
use Rattle.catalogue.specs.declared.checked.TypedCell.{TypedCell}
use Rattle.catalogue.specs.declared.checked.TypedCell.TheVariants as cell
use Rattle.catalogue.specs.declared.checked.TypedSet.{TypedSet}
use Rattle.schema.specs.declared.catalogue.TableDef.{TableDef}
use Rattle.backend_trait.specs.Runnable.{IsRunnable}
use Rattle.time_rewrite.specs.Rewriting.{timed, form_at, expr_at, cell_at, set_at, body_at, at_moment}
use Rattle.time_rewrite.specs.Timeless.{timeless_form, timeless_expr, timeless_option, timeless_cell, timeless_body, is_timeless}
use Rattle.time_rewrite.proofs.Forms.{folded_summand, folded_factor, summand_is, factor_is, expr_by_form, rolled}

both_true : (a b : Truth) → (a && b) ≡ true → (a ≡ true) × (b ≡ true)
both_true true b h = (refl, h)
both_true false b h = absurd (cc)

-- a list of which each part stays
each_kept : {X A : Type 0} (of : X → A) (test : A → Truth) (at : A → A) → ((x : X) → test (of x) ≡ true → at (of x) ≡ of x)
    → (xs : List X) → list_all (λ b. b) (map test (map of xs)) ≡ true → map at (map of xs) ≡ map of xs
each_kept of test at kept [] h = refl
each_kept of test at kept (x ∷ xs) h =
    let parts = both_true (test (of x)) (list_all (λ b. b) (map test (map of xs))) h in
    ap (λ y. y ∷ map at (map of xs)) (kept x parts.0) ∙ ap (λ ys. of x ∷ ys) (each_kept of test at kept xs parts.1)

all_kept : {A : Type 0} (test : A → Truth) (at : A → A) → ((a : A) → test a ≡ true → at a ≡ a) → (xs : List A) → list_all test xs ≡ true → map at xs ≡ xs
all_kept test at kept [] h = refl
all_kept test at kept (x ∷ xs) h =
    let parts = both_true (test x) (list_all test xs) h in
    ap (λ y. y ∷ map at xs) (kept x parts.0) ∙ ap (λ ys. x ∷ ys) (all_kept test at kept xs parts.1)

-- whether no time function stands in a part of an expression
abbrev told_form : TypedForm → Truth
told_form = fold-TypedForm Truth Truth Truth Truth timeless_form (λ e. e.form) (λ f. f.part) (λ s. s.part)

abbrev told_factor : TypedProductPart → Truth
told_factor = fold-TypedProductPart Truth Truth Truth Truth timeless_form (λ e. e.form) (λ f. f.part) (λ s. s.part)

abbrev told_summand : TypedSumPart → Truth
told_summand = fold-TypedSumPart Truth Truth Truth Truth timeless_form (λ e. e.form) (λ f. f.part) (λ s. s.part)

told_expr_is : (e : TypedExpr) → timeless_expr e ≡ told_form e.form
told_expr_is e = search (rules, the_lemmas)

told_factor_is : (f : TypedProductPart) → told_factor f ≡ timeless_expr f.part
told_factor_is f = search (rules, the_lemmas)

told_summand_is : (s : TypedSumPart) → told_summand s ≡ timeless_expr s.part
told_summand_is s = search (rules, the_lemmas)

module _ (moment : ℤ) where
  abbrev KeptForm : TypedForm → Type 0
  KeptForm f = told_form f ≡ true → form_at moment f ≡ f

  abbrev KeptExpr : TypedExpr → Type 0
  KeptExpr e = timeless_expr e ≡ true → expr_at moment e ≡ e

  abbrev KeptFactor : TypedProductPart → Type 0
  KeptFactor f = told_factor f ≡ true → folded_factor moment f ≡ f

  abbrev KeptSummand : TypedSumPart → Type 0
  KeptSummand s = told_summand s ≡ true → folded_summand moment s ≡ s

  -- the parts of a form
  module _ {X Y Z W : Type 0} (f_of : X → TypedForm) (e_of : Y → TypedExpr) (p_of : Z → TypedProductPart) (s_of : W → TypedSumPart) (ey : (y : Y) → KeptExpr (e_of y)) (pz : (z : Z) → KeptFactor (p_of z)) (sw : (w : W) → KeptSummand (s_of w)) where
    parts_kept : (y : TypedForm-F X Y Z W)
        → timeless_form (map-TypedForm TypedForm TypedExpr TypedProductPart TypedSumPart Truth Truth Truth Truth told_form timeless_expr told_factor told_summand
        (map-TypedForm X Y Z W TypedForm TypedExpr TypedProductPart TypedSumPart f_of e_of p_of s_of y)) ≡ true
        → timed moment (map-TypedForm TypedForm TypedExpr TypedProductPart TypedSumPart TypedForm TypedExpr TypedProductPart TypedSumPart
        (form_at moment) (expr_at moment) (folded_factor moment) (folded_summand moment)
        (map-TypedForm X Y Z W TypedForm TypedExpr TypedProductPart TypedSumPart f_of e_of p_of s_of y))
        ≡ map-TypedForm X Y Z W TypedForm TypedExpr TypedProductPart TypedSumPart f_of e_of p_of s_of y
    parts_kept (TypedForm-F.Or parts) h = ap TypedForm-F.Or (each_kept e_of timeless_expr (expr_at moment) ey parts h)
    parts_kept (TypedForm-F.And parts) h = ap TypedForm-F.And (each_kept e_of timeless_expr (expr_at moment) ey parts h)
    parts_kept (TypedForm-F.Not part) h = ap TypedForm-F.Not (ey part h)
    parts_kept (TypedForm-F.IsNull part tests) h = ap (λ (e : TypedExpr). TypedForm-F.IsNull e tests) (ey part h)
    parts_kept (TypedForm-F.Compare how left right) h =
        let parts = both_true (timeless_expr (e_of left)) (timeless_expr (e_of right)) h in
        ap (λ (e : TypedExpr). TypedForm-F.Compare how e (expr_at moment (e_of right))) (ey left parts.0) ∙ ap (TypedForm-F.Compare how (e_of left)) (ey right parts.1)
    parts_kept (TypedForm-F.Member part negated entries) h =
        let parts = both_true (timeless_expr (e_of part)) (list_all (λ b. b) (map timeless_expr (map e_of entries))) h in
        ap (λ (e : TypedExpr). TypedForm-F.Member e negated (map (expr_at moment) (map e_of entries))) (ey part parts.0)
        ∙ ap (TypedForm-F.Member (e_of part) negated) (each_kept e_of timeless_expr (expr_at moment) ey entries parts.1)
    parts_kept (TypedForm-F.Concat parts) h = ap TypedForm-F.Concat (each_kept e_of timeless_expr (expr_at moment) ey parts h)
    parts_kept (TypedForm-F.Sum first others) h =
        let parts = both_true (timeless_expr (e_of first)) (list_all (λ b. b) (map told_summand (map s_of others))) h in
        ap (λ (e : TypedExpr). TypedForm-F.Sum e (map (folded_summand moment) (map s_of others))) (ey first parts.0)
        ∙ ap (TypedForm-F.Sum (e_of first)) (each_kept s_of told_summand (folded_summand moment) sw others parts.1)
    parts_kept (TypedForm-F.Product first others) h =
        let parts = both_true (timeless_expr (e_of first)) (list_all (λ b. b) (map told_factor (map p_of others))) h in
        ap (λ (e : TypedExpr). TypedForm-F.Product e (map (folded_factor moment) (map p_of others))) (ey first parts.0)
        ∙ ap (TypedForm-F.Product (e_of first)) (each_kept p_of told_factor (folded_factor moment) pz others parts.1)
    parts_kept (TypedForm-F.Minus part) h = ap TypedForm-F.Minus (ey part h)
    parts_kept (TypedForm-F.Literal v) h = refl
    parts_kept (TypedForm-F.Param number) h = refl
    parts_kept (TypedForm-F.Column number) h = refl
    parts_kept TypedForm-F.CurrentTimestamp h = absurd (cc)
    parts_kept TypedForm-F.Now h = absurd (cc)
    parts_kept TypedForm-F.TransactionTimestamp h = absurd (cc)

    form_kept : (y : TypedForm-F X Y Z W) → KeptForm (roll-TypedForm (map-TypedForm X Y Z W TypedForm TypedExpr TypedProductPart TypedSumPart f_of e_of p_of s_of y))
    form_kept y = λ h.
        let x = map-TypedForm X Y Z W TypedForm TypedExpr TypedProductPart TypedSumPart f_of e_of p_of s_of y in
        rolled moment x ∙ ap roll-TypedForm (parts_kept y (sym (fold-roll-TypedForm Truth Truth Truth Truth timeless_form (λ e. e.form) (λ f. f.part) (λ s. s.part) x) ∙ h))

  by_form : (e : TypedExpr) → KeptForm e.form → KeptExpr e
  by_form e kept = λ h. expr_by_form moment e ∙ ap (typed e.kind) (kept (sym (told_expr_is e) ∙ h))

  factor_kept : (f : TypedProductPart) → KeptExpr f.part → KeptFactor f
  factor_kept f kept = λ h. factor_is moment f ∙ ap (λ (e : TypedExpr). record { sign = f.sign; part = e }) (kept (sym (told_factor_is f) ∙ h))

  summand_kept : (s : TypedSumPart) → KeptExpr s.part → KeptSummand s
  summand_kept s kept = λ h. summand_is moment s ∙ ap (λ (e : TypedExpr). record { minus = s.minus; part = e }) (kept (sym (told_summand_is s) ∙ h))

  expr_kept : (e : TypedExpr) → KeptExpr e
  expr_kept = ind-TypedExpr KeptForm KeptExpr KeptFactor KeptSummand
      (λ x y is. subst (λ (z : TypedForm-F TypedForm TypedExpr TypedProductPart TypedSumPart). KeptForm (roll-TypedForm z)) is
      (form_kept (λ f. f.0) (λ e. e.0) (λ p. p.0) (λ s. s.0) (λ e. e.1) (λ p. p.1) (λ s. s.1) y))
      (λ x y is. by_form _ (subst (λ (z : TypedExpr-F TypedForm TypedExpr TypedProductPart TypedSumPart). KeptForm z.form) is y.form.1))
      (λ x y is. factor_kept _ (subst (λ (z : TypedProductPart-F TypedForm TypedExpr TypedProductPart TypedSumPart). KeptExpr z.part) is y.part.1))
      (λ x y is. summand_kept _ (subst (λ (z : TypedSumPart-F TypedForm TypedExpr TypedProductPart TypedSumPart). KeptExpr z.part) is y.part.1))

  option_kept : (e : Option TypedExpr) → timeless_option e ≡ true → option_map (expr_at moment) e ≡ e
  option_kept None h = refl
  option_kept (Some e) h = ap Some (expr_kept e h)

  cell_kept : (c : TypedCell) → timeless_cell c ≡ true → cell_at moment c ≡ c
  cell_kept cell.Serial h = refl
  cell_kept cell.Now h = absurd (cc)
  cell_kept (cell.Given e) h = ap cell.Given (expr_kept e h)

  set_kept : (s : TypedSet) → timeless_expr s.expr ≡ true → set_at moment s ≡ s
  set_kept s h = ap (λ (e : TypedExpr). record { column = s.column; expr = e }) (expr_kept s.expr h)

  body_kept : (b : CheckedBody) → timeless_body b ≡ true → body_at moment b ≡ b
  body_kept (body.Read read) h =
      let parts = both_true (list_all timeless_expr read.list) (timeless_option read.filter && timeless_option read.limit) h in
      let ends = both_true (timeless_option read.filter) (timeless_option read.limit) parts.1 in
      let list = all_kept timeless_expr (expr_at moment) expr_kept read.list parts.0 in
      let filter = option_kept read.filter ends.0 in
      let limit = option_kept read.limit ends.1 in
      λ i. body.Read (record read { list = list i; filter = filter i; limit = limit i })
  body_kept (body.Insert insert) h =
      let rows = all_kept (list_all timeless_cell) (map (cell_at moment)) (all_kept timeless_cell (cell_at moment) cell_kept) insert.rows h in
      λ i. body.Insert (record insert { rows = rows i })
  body_kept (body.Change change) h =
      let parts = both_true (list_all (λ s. timeless_expr s.expr) change.sets) (timeless_option change.filter) h in
      let sets = all_kept (λ s. timeless_expr s.expr) (set_at moment) set_kept change.sets parts.0 in
      let filter = option_kept change.filter parts.1 in
      λ i. body.Change (record change { sets = sets i; filter = filter i })
  body_kept (body.Remove remove) h =
      let filter = option_kept remove.filter h in
      λ i. body.Remove (record remove { filter = filter i })

  pub statement_kept : (checked : Checked) → is_timeless checked ≡ true → at_moment moment checked ≡ checked
  statement_kept checked h = ap (λ (b : CheckedBody). record checked { body = b }) (body_kept checked.body h)

-- a statement that a store can run as it is
pub runnable_kept : (moment : ℤ) (tables : List TableDef) (checked : Checked) → IsRunnable tables checked → at_moment moment checked ≡ checked
runnable_kept moment tables checked runnable = statement_kept moment checked runnable.timeless

-- What is folded out of an expression at a moment: what is folded out of the expression, where a time function counts as the literal.
use Rattle.std.proofs.Common.{rules, ◌≡◌, ◌∙◌, ℤ, List, [], ◌∷◌, map, ap, sym, subst, refl}
use Rattle.typed_sql.specs.declared.typed.TypedExpr.{TypedExpr}
use Rattle.typed_sql.specs.declared.typed.TypedForm.{TypedForm, roll-TypedForm, map-TypedForm, the_lemmas}
use Rattle.typed_sql.specs.declared.typed.TypedForm.TheOpen.{TypedForm-F, TypedExpr-F, TypedProductPart-F, TypedSumPart-F}
use Rattle.typed_sql.specs.declared.typed.TypedForm.TheFolds.{fold-TypedForm, fold-TypedExpr, fold-TypedProductPart, fold-TypedSumPart, fold-roll-TypedForm, ind-TypedExpr}
use Rattle.typed_sql.specs.declared.typed.TypedSumPart.{TypedSumPart}
use Rattle.typed_sql.specs.declared.typed.TypedProductPart.{TypedProductPart}
use Rattle.time_rewrite.specs.Rewriting.{timed, form_at, expr_at, summand_at, factor_at}
use Rattle.time_rewrite.proofs.Forms.{folded_summand, folded_factor, summand_is, factor_is, expr_by_form, rolled}

-- a list that is made in two ways
each_same : {X A B C : Type 0} (of : X → A) (put : A → B) (back : B → C) (straight : A → C) → ((x : X) → back (put (of x)) ≡ straight (of x))
    → (xs : List X) → map back (map put (map of xs)) ≡ map straight (map of xs)
each_same of put back straight same [] = refl
each_same of put back straight same (x ∷ xs) =
    ap (λ c. c ∷ map back (map put (map of xs))) (same x) ∙ ap (λ more. straight (of x) ∷ more) (each_same of put back straight same xs)

module _ (moment : ℤ) {F E P S : Type 0} (form : TypedForm-F F E P S → F) (expr : TypedExpr-F F E P S → E) (factor : TypedProductPart-F F E P S → P) (summand : TypedSumPart-F F E P S → S) where
  -- out of an expression as it is
  abbrev of_form : TypedForm → F
  of_form = fold-TypedForm F E P S form expr factor summand

  abbrev of_expr : TypedExpr → E
  of_expr = fold-TypedExpr F E P S form expr factor summand

  abbrev of_factor : TypedProductPart → P
  of_factor = fold-TypedProductPart F E P S form expr factor summand

  abbrev of_summand : TypedSumPart → S
  of_summand = fold-TypedSumPart F E P S form expr factor summand

  -- out of an expression whose time functions count as literals
  abbrev counted_form : TypedForm → F
  counted_form = fold-TypedForm F E P S (λ x. form (timed moment x)) expr factor summand

  abbrev counted_expr : TypedExpr → E
  counted_expr = fold-TypedExpr F E P S (λ x. form (timed moment x)) expr factor summand

  abbrev counted_factor : TypedProductPart → P
  counted_factor = fold-TypedProductPart F E P S (λ x. form (timed moment x)) expr factor summand

  abbrev counted_summand : TypedSumPart → S
  counted_summand = fold-TypedSumPart F E P S (λ x. form (timed moment x)) expr factor summand

  abbrev SameForm : TypedForm → Type 0
  SameForm f = of_form (form_at moment f) ≡ counted_form f

  abbrev SameExpr : TypedExpr → Type 0
  SameExpr e = of_expr (expr_at moment e) ≡ counted_expr e

  abbrev SameFactor : TypedProductPart → Type 0
  SameFactor f = of_factor (folded_factor moment f) ≡ counted_factor f

  abbrev SameSummand : TypedSumPart → Type 0
  SameSummand s = of_summand (folded_summand moment s) ≡ counted_summand s

  -- the parts of a form
  module _ {X Y Z W : Type 0} (f_of : X → TypedForm) (e_of : Y → TypedExpr) (p_of : Z → TypedProductPart) (s_of : W → TypedSumPart) (ey : (y : Y) → SameExpr (e_of y)) (pz : (z : Z) → SameFactor (p_of z)) (sw : (w : W) → SameSummand (s_of w)) where
    parts_same : (y : TypedForm-F X Y Z W)
        → map-TypedForm TypedForm TypedExpr TypedProductPart TypedSumPart F E P S of_form of_expr of_factor of_summand (timed moment
        (map-TypedForm TypedForm TypedExpr TypedProductPart TypedSumPart TypedForm TypedExpr TypedProductPart TypedSumPart
        (form_at moment) (expr_at moment) (folded_factor moment) (folded_summand moment)
        (map-TypedForm X Y Z W TypedForm TypedExpr TypedProductPart TypedSumPart f_of e_of p_of s_of y)))
        ≡ timed moment (map-TypedForm TypedForm TypedExpr TypedProductPart TypedSumPart F E P S counted_form counted_expr counted_factor counted_summand
        (map-TypedForm X Y Z W TypedForm TypedExpr TypedProductPart TypedSumPart f_of e_of p_of s_of y))
    parts_same (TypedForm-F.Or parts) = ap TypedForm-F.Or (each_same e_of (expr_at moment) of_expr counted_expr ey parts)
    parts_same (TypedForm-F.And parts) = ap TypedForm-F.And (each_same e_of (expr_at moment) of_expr counted_expr ey parts)
    parts_same (TypedForm-F.Not part) = ap TypedForm-F.Not (ey part)
    parts_same (TypedForm-F.IsNull part tests) = ap (λ (e : E). TypedForm-F.IsNull e tests) (ey part)
    parts_same (TypedForm-F.Compare how left right) =
        ap (λ (e : E). TypedForm-F.Compare how e (of_expr (expr_at moment (e_of right)))) (ey left) ∙ ap (TypedForm-F.Compare how (counted_expr (e_of left))) (ey right)
    parts_same (TypedForm-F.Member part negated entries) =
        ap (λ (e : E). TypedForm-F.Member e negated (map of_expr (map (expr_at moment) (map e_of entries)))) (ey part)
        ∙ ap (TypedForm-F.Member (counted_expr (e_of part)) negated) (each_same e_of (expr_at moment) of_expr counted_expr ey entries)
    parts_same (TypedForm-F.Concat parts) = ap TypedForm-F.Concat (each_same e_of (expr_at moment) of_expr counted_expr ey parts)
    parts_same (TypedForm-F.Sum first parts) =
        ap (λ (e : E). TypedForm-F.Sum e (map of_summand (map (folded_summand moment) (map s_of parts)))) (ey first)
        ∙ ap (TypedForm-F.Sum (counted_expr (e_of first))) (each_same s_of (folded_summand moment) of_summand counted_summand sw parts)
    parts_same (TypedForm-F.Product first parts) =
        ap (λ (e : E). TypedForm-F.Product e (map of_factor (map (folded_factor moment) (map p_of parts)))) (ey first)
        ∙ ap (TypedForm-F.Product (counted_expr (e_of first))) (each_same p_of (folded_factor moment) of_factor counted_factor pz parts)
    parts_same (TypedForm-F.Minus part) = ap TypedForm-F.Minus (ey part)
    parts_same (TypedForm-F.Literal v) = refl
    parts_same (TypedForm-F.Param number) = refl
    parts_same (TypedForm-F.Column number) = refl
    parts_same TypedForm-F.CurrentTimestamp = refl
    parts_same TypedForm-F.Now = refl
    parts_same TypedForm-F.TransactionTimestamp = refl

    form_same : (y : TypedForm-F X Y Z W) → SameForm (roll-TypedForm (map-TypedForm X Y Z W TypedForm TypedExpr TypedProductPart TypedSumPart f_of e_of p_of s_of y))
    form_same y =
        let x = map-TypedForm X Y Z W TypedForm TypedExpr TypedProductPart TypedSumPart f_of e_of p_of s_of y in
        ap of_form (rolled moment x)
        ∙ (fold-roll-TypedForm F E P S form expr factor summand (timed moment
        (map-TypedForm TypedForm TypedExpr TypedProductPart TypedSumPart TypedForm TypedExpr TypedProductPart TypedSumPart
        (form_at moment) (expr_at moment) (folded_factor moment) (folded_summand moment) x))
        ∙ (ap form (parts_same y) ∙ sym (fold-roll-TypedForm F E P S (λ z. form (timed moment z)) expr factor summand x)))

  -- an expression, a factor and a summand, by their parts
  of_expr_is : (e : TypedExpr) → of_expr e ≡ expr (record { kind = e.kind; form = of_form e.form })
  of_expr_is e = search (rules, the_lemmas)

  counted_expr_is : (e : TypedExpr) → counted_expr e ≡ expr (record { kind = e.kind; form = counted_form e.form })
  counted_expr_is e = search (rules, the_lemmas)

  of_factor_is : (f : TypedProductPart) → of_factor f ≡ factor (record { sign = f.sign; part = of_expr f.part })
  of_factor_is f = search (rules, the_lemmas)

  counted_factor_is : (f : TypedProductPart) → counted_factor f ≡ factor (record { sign = f.sign; part = counted_expr f.part })
  counted_factor_is f = search (rules, the_lemmas)

  of_summand_is : (s : TypedSumPart) → of_summand s ≡ summand (record { minus = s.minus; part = of_expr s.part })
  of_summand_is s = search (rules, the_lemmas)

  counted_summand_is : (s : TypedSumPart) → counted_summand s ≡ summand (record { minus = s.minus; part = counted_expr s.part })
  counted_summand_is s = search (rules, the_lemmas)

  expr_same : (e : TypedExpr) → SameForm e.form → SameExpr e
  expr_same e same = ap of_expr (expr_by_form moment e) ∙ (of_expr_is (record { kind = e.kind; form = form_at moment e.form })
      ∙ (ap (λ (f : F). expr (record { kind = e.kind; form = f })) same ∙ sym (counted_expr_is e)))

  factor_same : (f : TypedProductPart) → SameExpr f.part → SameFactor f
  factor_same f same = ap of_factor (factor_is moment f) ∙ (of_factor_is (factor_at moment f)
      ∙ (ap (λ (e : E). factor (record { sign = f.sign; part = e })) same ∙ sym (counted_factor_is f)))

  summand_same : (s : TypedSumPart) → SameExpr s.part → SameSummand s
  summand_same s same = ap of_summand (summand_is moment s) ∙ (of_summand_is (summand_at moment s)
      ∙ (ap (λ (e : E). summand (record { minus = s.minus; part = e })) same ∙ sym (counted_summand_is s)))

  pub folded_same : (e : TypedExpr) → SameExpr e
  folded_same = ind-TypedExpr SameForm SameExpr SameFactor SameSummand
      (λ x y is. subst (λ (z : TypedForm-F TypedForm TypedExpr TypedProductPart TypedSumPart). SameForm (roll-TypedForm z)) is
      (form_same (λ f. f.0) (λ e. e.0) (λ p. p.0) (λ s. s.0) (λ e. e.1) (λ p. p.1) (λ s. s.1) y))
      (λ x y is. expr_same _ (subst (λ (z : TypedExpr-F TypedForm TypedExpr TypedProductPart TypedSumPart). SameForm z.form) is y.form.1))
      (λ x y is. factor_same _ (subst (λ (z : TypedProductPart-F TypedForm TypedExpr TypedProductPart TypedSumPart). SameExpr z.part) is y.part.1))
      (λ x y is. summand_same _ (subst (λ (z : TypedSumPart-F TypedForm TypedExpr TypedProductPart TypedSumPart). SameExpr z.part) is y.part.1))

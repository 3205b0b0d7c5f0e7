-- The derived test for equal expressions tells just that, down the tree.
use Rattle.std.proofs.Common.{◌≡◌, ◌∙◌, ℕ, Bool as Truth, true, false, List, [], ◌∷◌, map, refl, sym, ap, subst, eqb-true, true≢false}
use Rattle.std.specs.Cmp.{signed_Decides, booleans_Decides}
use Rattle.std.specs.Cmp.Lexicographic.{pointwise, pointwise_decides, bytes_decides}
use Rattle.pg_values.specs.declared.value.Value.{Value}
use Rattle.pg_values.specs.declared.value.Value.TheVariants as values
use Rattle.pg_values.specs.contracts.value.ValuePartialEq.TheImpl as value_eq
use Rattle.pg_values.specs.declared.col_type.ColType.{ColType}
use Rattle.pg_values.specs.declared.col_type.ColType.TheVariants as kinds
use Rattle.pg_values.specs.contracts.col_type.ColTypePartialEq.TheImpl as kind_eq
use Rattle.sql_tree.specs.declared.expr.Comparison.{Comparison}
use Rattle.sql_tree.specs.declared.expr.Comparison.TheVariants as comparisons
use Rattle.sql_tree.specs.contracts.expr.ComparisonPartialEq.TheImpl as comparison_eq
use Rattle.sql_tree.specs.declared.expr.ProductSign.{ProductSign}
use Rattle.sql_tree.specs.declared.expr.ProductSign.TheVariants as signs
use Rattle.sql_tree.specs.contracts.expr.ProductSignPartialEq.TheImpl as sign_eq
use Rattle.typed_sql.specs.declared.typed.TypedExpr.{TypedExpr}
use Rattle.typed_sql.specs.declared.typed.TypedForm.{TypedForm, roll-TypedForm, out-TypedForm, roll-out-TypedForm, out-roll-TypedForm, map-TypedForm}
use Rattle.typed_sql.specs.declared.typed.TypedForm.TheOpen.{TypedForm-F, TypedExpr-F, TypedProductPart-F, TypedSumPart-F}
use Rattle.typed_sql.specs.declared.typed.TypedForm.TheFolds.{ind-TypedExpr}
use Rattle.typed_sql.specs.declared.typed.TypedSumPart.{TypedSumPart}
use Rattle.typed_sql.specs.declared.typed.TypedProductPart.{TypedProductPart}
use Rattle.typed_sql.specs.contracts.typed.TypedExprPartialEq.TheImpl as expr_eq
use Rattle.typed_sql.specs.contracts.typed.TypedExprPartialEq.TheImpl.Laws as expr_laws
use Rattle.typed_sql.specs.contracts.typed.TypedExprEq.TheImpl.Laws.{laws-law}
use Rattle.typed_sql.specs.contracts.typed.TypedFormPartialEq.TheImpl as form_eq
use Rattle.typed_sql.specs.contracts.typed.TypedFormPartialEq.TheImpl.Laws as form_laws
use Rattle.typed_sql.specs.contracts.typed.TypedSumPartPartialEq.TheImpl as summand_eq
use Rattle.typed_sql.specs.contracts.typed.TypedSumPartPartialEq.TheImpl.Laws as summand_laws
use Rattle.typed_sql.specs.contracts.typed.TypedProductPartPartialEq.TheImpl as factor_eq
use Rattle.typed_sql.specs.contracts.typed.TypedProductPartPartialEq.TheImpl.Laws as factor_laws
use Rattle.backend_trait.proofs.Telling.{Tells, and_true}

-- no test is both false and true
pub never : {X : Type 0} → false ≡ true → X
never e = absurd (true≢false (sym e))

kind_only : (x y : ColType) → (kind_eq.ghosts).eq x y ≡ true → x ≡ y
kind_only kinds.Bool kinds.Bool e = refl
kind_only kinds.Int4 kinds.Int4 e = refl
kind_only kinds.Int8 kinds.Int8 e = refl
kind_only kinds.Text kinds.Text e = refl
kind_only kinds.Moment kinds.Moment e = refl
kind_only x y e = never e

kind_itself : (x : ColType) → (kind_eq.ghosts).eq x x ≡ true
kind_itself kinds.Bool = refl
kind_itself kinds.Int4 = refl
kind_itself kinds.Int8 = refl
kind_itself kinds.Text = refl
kind_itself kinds.Moment = refl

pub kind_told : (x y : ColType) → Tells ((kind_eq.ghosts).eq x y) (x ≡ y)
kind_told x y = (kind_only x y, λ e. subst (λ (z : ColType). (kind_eq.ghosts).eq x z ≡ true) e (kind_itself x))

value_only : (x y : Value) → (value_eq.ghosts).eq x y ≡ true → x ≡ y
value_only values.Null values.Null e = refl
value_only (values.Bool true) (values.Bool true) e = refl
value_only (values.Bool false) (values.Bool false) e = refl
value_only (values.Int4 a) (values.Int4 b) e = ap values.Int4 ((signed_Decides a b).0 e)
value_only (values.Int8 a) (values.Int8 b) e = ap values.Int8 ((signed_Decides a b).0 e)
value_only (values.Text a) (values.Text b) e = ap values.Text ((bytes_decides a b).0 e)
value_only (values.Moment a) (values.Moment b) e = ap values.Moment ((signed_Decides a b).0 e)
value_only x y e = never e

value_itself : (x : Value) → (value_eq.ghosts).eq x x ≡ true
value_itself values.Null = refl
value_itself (values.Bool true) = refl
value_itself (values.Bool false) = refl
value_itself (values.Int4 a) = (signed_Decides a a).1 refl
value_itself (values.Int8 a) = (signed_Decides a a).1 refl
value_itself (values.Text a) = (bytes_decides a a).1 refl
value_itself (values.Moment a) = (signed_Decides a a).1 refl

pub value_told : (x y : Value) → Tells ((value_eq.ghosts).eq x y) (x ≡ y)
value_told x y = (value_only x y, λ e. subst (λ (z : Value). (value_eq.ghosts).eq x z ≡ true) e (value_itself x))

comparison_only : (x y : Comparison) → (comparison_eq.ghosts).eq x y ≡ true → x ≡ y
comparison_only comparisons.Equal comparisons.Equal e = refl
comparison_only comparisons.Unequal comparisons.Unequal e = refl
comparison_only comparisons.Less comparisons.Less e = refl
comparison_only comparisons.AtMost comparisons.AtMost e = refl
comparison_only comparisons.Greater comparisons.Greater e = refl
comparison_only comparisons.AtLeast comparisons.AtLeast e = refl
comparison_only x y e = never e

sign_only : (x y : ProductSign) → (sign_eq.ghosts).eq x y ≡ true → x ≡ y
sign_only signs.Times signs.Times e = refl
sign_only signs.Over signs.Over e = refl
sign_only signs.Rest signs.Rest e = refl
sign_only x y e = never e

abbrev pub same_expr : TypedExpr → TypedExpr → Truth
same_expr = (expr_eq.ghosts).eq

abbrev same_form : TypedForm → TypedForm → Truth
same_form = (form_eq.ghosts).eq

abbrev same_summand : TypedSumPart → TypedSumPart → Truth
same_summand = (summand_eq.ghosts).eq

abbrev same_factor : TypedProductPart → TypedProductPart → Truth
same_factor = (factor_eq.ghosts).eq

abbrev FormTold : TypedForm → Type 0
FormTold f = (g : TypedForm) → same_form f g ≡ true → f ≡ g

abbrev ExprTold : TypedExpr → Type 0
ExprTold e = (d : TypedExpr) → same_expr e d ≡ true → e ≡ d

abbrev SummandTold : TypedSumPart → Type 0
SummandTold s = (t : TypedSumPart) → same_summand s t ≡ true → s ≡ t

abbrev FactorTold : TypedProductPart → Type 0
FactorTold p = (q : TypedProductPart) → same_factor p q ≡ true → p ≡ q

-- lists, where the test tells of each item of the first
each_told : {X A : Type 0} (test : A → A → Truth) (of : X → A) → ((x : X) (a : A) → test (of x) a ≡ true → of x ≡ a)
    → (xs : List X) (ys : List A) → pointwise test (map of xs) ys ≡ true → map of xs ≡ ys
each_told test of told [] [] e = refl
each_told test of told [] (y ∷ ys) e = never e
each_told test of told (x ∷ xs) [] e = never e
each_told test of told (x ∷ xs) (y ∷ ys) e =
    let h = and_true _ _ e in
    let first : of x ≡ y = told x y h.0 in
    let more : map of xs ≡ ys = each_told test of told xs ys h.1 in
    cc

-- an expression, a summand and a factor, by their parts
same_typed : (e d : TypedExpr) → e.kind ≡ d.kind → e.form ≡ d.form → e ≡ d
same_typed e d kind form = λ i. record { kind = kind i; form = form i }

same_signed : (s t : TypedSumPart) → s.minus ≡ t.minus → s.part ≡ t.part → s ≡ t
same_signed s t minus part = λ i. record { minus = minus i; part = part i }

same_times : (p q : TypedProductPart) → p.sign ≡ q.sign → p.part ≡ q.part → p ≡ q
same_times p q sign part = λ i. record { sign = sign i; part = part i }

expr_told_by : (e : TypedExpr) → FormTold e.form → ExprTold e
expr_told_by e form_told d t = let h = and_true _ _ (sym (expr_laws.is e d) ∙ t) in same_typed e d (kind_only e.kind d.kind h.0) (form_told d.form h.1)

summand_told_by : (s : TypedSumPart) → ExprTold s.part → SummandTold s
summand_told_by s expr_told t e = let h = and_true _ _ (sym (summand_laws.is s t) ∙ e) in same_signed s t ((booleans_Decides s.minus t.minus).0 h.0) (expr_told t.part h.1)

factor_told_by : (p : TypedProductPart) → ExprTold p.part → FactorTold p
factor_told_by p expr_told q e = let h = and_true _ _ (sym (factor_laws.is p q) ∙ e) in same_times p q (sign_only p.sign q.sign h.0) (expr_told q.part h.1)

abbrev Layer : Type 0
Layer = TypedForm-F TypedForm TypedExpr TypedProductPart TypedSumPart

-- a form by its parts
module _ {X Y Z W : Type 0} (f_of : X → TypedForm) (e_of : Y → TypedExpr) (p_of : Z → TypedProductPart) (s_of : W → TypedSumPart) (ey : (y : Y) → ExprTold (e_of y)) (pz : (z : Z) → FactorTold (p_of z)) (sw : (w : W) → SummandTold (s_of w)) where
  exprs : (xs : List Y) (ys : List TypedExpr) → pointwise same_expr (map e_of xs) ys ≡ true → map e_of xs ≡ ys
  exprs = each_told same_expr e_of ey

  abbrev layer : TypedForm-F X Y Z W → Layer
  layer = map-TypedForm X Y Z W TypedForm TypedExpr TypedProductPart TypedSumPart f_of e_of p_of s_of

  or_told : (f g : TypedForm) (xs : List Y) (other : Layer) → out-TypedForm f ≡ layer (TypedForm-F.Or xs) → out-TypedForm g ≡ other → form_laws.unfolded f g ≡ true → layer (TypedForm-F.Or xs) ≡ other
  or_told f g xs (TypedForm-F.Or ys) a b e = let t = rw (a, b) at e in ap TypedForm-F.Or (exprs xs ys t)
  or_told f g xs other a b e = never (rw (a, b) at e)

  and_told : (f g : TypedForm) (xs : List Y) (other : Layer) → out-TypedForm f ≡ layer (TypedForm-F.And xs) → out-TypedForm g ≡ other → form_laws.unfolded f g ≡ true → layer (TypedForm-F.And xs) ≡ other
  and_told f g xs (TypedForm-F.And ys) a b e = let t = rw (a, b) at e in ap TypedForm-F.And (exprs xs ys t)
  and_told f g xs other a b e = never (rw (a, b) at e)

  concat_told : (f g : TypedForm) (xs : List Y) (other : Layer) → out-TypedForm f ≡ layer (TypedForm-F.Concat xs) → out-TypedForm g ≡ other → form_laws.unfolded f g ≡ true → layer (TypedForm-F.Concat xs) ≡ other
  concat_told f g xs (TypedForm-F.Concat ys) a b e = let t = rw (a, b) at e in ap TypedForm-F.Concat (exprs xs ys t)
  concat_told f g xs other a b e = never (rw (a, b) at e)

  not_told : (f g : TypedForm) (x : Y) (other : Layer) → out-TypedForm f ≡ layer (TypedForm-F.Not x) → out-TypedForm g ≡ other → form_laws.unfolded f g ≡ true → layer (TypedForm-F.Not x) ≡ other
  not_told f g x (TypedForm-F.Not y) a b e = let t = rw (a, b) at e in ap TypedForm-F.Not (ey x y t)
  not_told f g x other a b e = never (rw (a, b) at e)

  minus_told : (f g : TypedForm) (x : Y) (other : Layer) → out-TypedForm f ≡ layer (TypedForm-F.Minus x) → out-TypedForm g ≡ other → form_laws.unfolded f g ≡ true → layer (TypedForm-F.Minus x) ≡ other
  minus_told f g x (TypedForm-F.Minus y) a b e = let t = rw (a, b) at e in ap TypedForm-F.Minus (ey x y t)
  minus_told f g x other a b e = never (rw (a, b) at e)

  is_null_told : (f g : TypedForm) (x : Y) (s : List Truth) (other : Layer) → out-TypedForm f ≡ layer (TypedForm-F.IsNull x s) → out-TypedForm g ≡ other → form_laws.unfolded f g ≡ true → layer (TypedForm-F.IsNull x s) ≡ other
  is_null_told f g x s (TypedForm-F.IsNull y u) a b e =
      let h = and_true _ _ (rw (a, b) at e) in
      let of : e_of x ≡ y = ey x y h.0 in
      let tests : s ≡ u = (pointwise_decides booleans_Decides s u).0 h.1 in
      ap (λ (z : TypedExpr). TypedForm-F.IsNull z s) of ∙ ap (λ (z : List Truth). TypedForm-F.IsNull y z) tests
  is_null_told f g x s other a b e = never (rw (a, b) at e)

  compare_told : (f g : TypedForm) (how : Comparison) (l r : Y) (other : Layer) → out-TypedForm f ≡ layer (TypedForm-F.Compare how l r) → out-TypedForm g ≡ other → form_laws.unfolded f g ≡ true → layer (TypedForm-F.Compare how l r) ≡ other
  compare_told f g how l r (TypedForm-F.Compare way m s) a b e =
      let h = and_true _ _ (rw (a, b) at e) in
      let k = and_true _ _ h.1 in
      let test : how ≡ way = comparison_only how way h.0 in
      let left : e_of l ≡ m = ey l m k.0 in
      let right : e_of r ≡ s = ey r s k.1 in
      ap (λ (z : Comparison). TypedForm-F.Compare z (e_of l) (e_of r)) test ∙ (ap (λ (z : TypedExpr). TypedForm-F.Compare way z (e_of r)) left ∙ ap (λ (z : TypedExpr). TypedForm-F.Compare way m z) right)
  compare_told f g how l r other a b e = never (rw (a, b) at e)

  member_told : (f g : TypedForm) (x : Y) (n : Truth) (xs : List Y) (other : Layer) → out-TypedForm f ≡ layer (TypedForm-F.Member x n xs) → out-TypedForm g ≡ other → form_laws.unfolded f g ≡ true → layer (TypedForm-F.Member x n xs) ≡ other
  member_told f g x n xs (TypedForm-F.Member y m ys) a b e =
      let h = and_true _ _ (rw (a, b) at e) in
      let k = and_true _ _ h.1 in
      let of : e_of x ≡ y = ey x y h.0 in
      let negated : n ≡ m = (booleans_Decides n m).0 k.0 in
      let entries : map e_of xs ≡ ys = exprs xs ys k.1 in
      ap (λ (z : TypedExpr). TypedForm-F.Member z n (map e_of xs)) of ∙ (ap (λ (z : Truth). TypedForm-F.Member y z (map e_of xs)) negated ∙ ap (λ (z : List TypedExpr). TypedForm-F.Member y m z) entries)
  member_told f g x n xs other a b e = never (rw (a, b) at e)

  sum_told : (f g : TypedForm) (x : Y) (xs : List W) (other : Layer) → out-TypedForm f ≡ layer (TypedForm-F.Sum x xs) → out-TypedForm g ≡ other → form_laws.unfolded f g ≡ true → layer (TypedForm-F.Sum x xs) ≡ other
  sum_told f g x xs (TypedForm-F.Sum y ys) a b e =
      let h = and_true _ _ (rw (a, b) at e) in
      let first : e_of x ≡ y = ey x y h.0 in
      let more : map s_of xs ≡ ys = each_told same_summand s_of sw xs ys h.1 in
      ap (λ (z : TypedExpr). TypedForm-F.Sum z (map s_of xs)) first ∙ ap (λ (z : List TypedSumPart). TypedForm-F.Sum y z) more
  sum_told f g x xs other a b e = never (rw (a, b) at e)

  product_told : (f g : TypedForm) (x : Y) (xs : List Z) (other : Layer) → out-TypedForm f ≡ layer (TypedForm-F.Product x xs) → out-TypedForm g ≡ other → form_laws.unfolded f g ≡ true → layer (TypedForm-F.Product x xs) ≡ other
  product_told f g x xs (TypedForm-F.Product y ys) a b e =
      let h = and_true _ _ (rw (a, b) at e) in
      let first : e_of x ≡ y = ey x y h.0 in
      let more : map p_of xs ≡ ys = each_told same_factor p_of pz xs ys h.1 in
      ap (λ (z : TypedExpr). TypedForm-F.Product z (map p_of xs)) first ∙ ap (λ (z : List TypedProductPart). TypedForm-F.Product y z) more
  product_told f g x xs other a b e = never (rw (a, b) at e)

  literal_told : (f g : TypedForm) (v : Value) (other : Layer) → out-TypedForm f ≡ layer (TypedForm-F.Literal v) → out-TypedForm g ≡ other → form_laws.unfolded f g ≡ true → layer (TypedForm-F.Literal v) ≡ other
  literal_told f g v (TypedForm-F.Literal w) a b e = let t = rw (a, b) at e in ap TypedForm-F.Literal (value_only v w t)
  literal_told f g v other a b e = never (rw (a, b) at e)

  param_told : (f g : TypedForm) (n : ℕ) (other : Layer) → out-TypedForm f ≡ layer (TypedForm-F.Param n) → out-TypedForm g ≡ other → form_laws.unfolded f g ≡ true → layer (TypedForm-F.Param n) ≡ other
  param_told f g n (TypedForm-F.Param m) a b e = let t = rw (a, b) at e in ap TypedForm-F.Param (eqb-true n m t)
  param_told f g n other a b e = never (rw (a, b) at e)

  column_told : (f g : TypedForm) (n : ℕ) (other : Layer) → out-TypedForm f ≡ layer (TypedForm-F.Column n) → out-TypedForm g ≡ other → form_laws.unfolded f g ≡ true → layer (TypedForm-F.Column n) ≡ other
  column_told f g n (TypedForm-F.Column m) a b e = let t = rw (a, b) at e in ap TypedForm-F.Column (eqb-true n m t)
  column_told f g n other a b e = never (rw (a, b) at e)

  current_told : (f g : TypedForm) (other : Layer) → out-TypedForm f ≡ layer TypedForm-F.CurrentTimestamp → out-TypedForm g ≡ other → form_laws.unfolded f g ≡ true → layer TypedForm-F.CurrentTimestamp ≡ other
  current_told f g TypedForm-F.CurrentTimestamp a b e = refl
  current_told f g other a b e = never (rw (a, b) at e)

  now_told : (f g : TypedForm) (other : Layer) → out-TypedForm f ≡ layer TypedForm-F.Now → out-TypedForm g ≡ other → form_laws.unfolded f g ≡ true → layer TypedForm-F.Now ≡ other
  now_told f g TypedForm-F.Now a b e = refl
  now_told f g other a b e = never (rw (a, b) at e)

  transaction_told : (f g : TypedForm) (other : Layer) → out-TypedForm f ≡ layer TypedForm-F.TransactionTimestamp → out-TypedForm g ≡ other → form_laws.unfolded f g ≡ true → layer TypedForm-F.TransactionTimestamp ≡ other
  transaction_told f g TypedForm-F.TransactionTimestamp a b e = refl
  transaction_told f g other a b e = never (rw (a, b) at e)

  layer_told : (f g : TypedForm) (x : TypedForm-F X Y Z W) (y : Layer) → out-TypedForm f ≡ layer x → out-TypedForm g ≡ y → form_laws.unfolded f g ≡ true → layer x ≡ y
  layer_told f g (TypedForm-F.Or xs) y a b e = or_told f g xs y a b e
  layer_told f g (TypedForm-F.And xs) y a b e = and_told f g xs y a b e
  layer_told f g (TypedForm-F.Not x) y a b e = not_told f g x y a b e
  layer_told f g (TypedForm-F.IsNull x s) y a b e = is_null_told f g x s y a b e
  layer_told f g (TypedForm-F.Compare how l r) y a b e = compare_told f g how l r y a b e
  layer_told f g (TypedForm-F.Member x n xs) y a b e = member_told f g x n xs y a b e
  layer_told f g (TypedForm-F.Concat xs) y a b e = concat_told f g xs y a b e
  layer_told f g (TypedForm-F.Sum x xs) y a b e = sum_told f g x xs y a b e
  layer_told f g (TypedForm-F.Product x xs) y a b e = product_told f g x xs y a b e
  layer_told f g (TypedForm-F.Minus x) y a b e = minus_told f g x y a b e
  layer_told f g (TypedForm-F.Literal v) y a b e = literal_told f g v y a b e
  layer_told f g (TypedForm-F.Param n) y a b e = param_told f g n y a b e
  layer_told f g (TypedForm-F.Column n) y a b e = column_told f g n y a b e
  layer_told f g TypedForm-F.CurrentTimestamp y a b e = current_told f g y a b e
  layer_told f g TypedForm-F.Now y a b e = now_told f g y a b e
  layer_told f g TypedForm-F.TransactionTimestamp y a b e = transaction_told f g y a b e

  form_told : (x : TypedForm-F X Y Z W) → FormTold (roll-TypedForm (layer x))
  form_told x g e =
      let f = roll-TypedForm (layer x) in
      ap roll-TypedForm (layer_told f g x (out-TypedForm g) (out-roll-TypedForm (layer x)) refl (sym (form_laws.is f g) ∙ e)) ∙ roll-out-TypedForm g

is_told : (e : TypedExpr) → ExprTold e
is_told = ind-TypedExpr FormTold ExprTold FactorTold SummandTold
    (λ x y is. subst (λ (z : Layer). FormTold (roll-TypedForm z)) is
    (form_told (λ f. f.0) (λ e. e.0) (λ p. p.0) (λ s. s.0) (λ e. e.1) (λ p. p.1) (λ s. s.1) y))
    (λ x y is. expr_told_by _ (subst (λ (z : TypedExpr-F TypedForm TypedExpr TypedProductPart TypedSumPart). FormTold z.form) is y.form.1))
    (λ x y is. factor_told_by _ (subst (λ (z : TypedProductPart-F TypedForm TypedExpr TypedProductPart TypedSumPart). ExprTold z.part) is y.part.1))
    (λ x y is. summand_told_by _ (subst (λ (z : TypedSumPart-F TypedForm TypedExpr TypedProductPart TypedSumPart). ExprTold z.part) is y.part.1))

pub expr_told : (e d : TypedExpr) → Tells (same_expr e d) (e ≡ d)
expr_told e d = (is_told e d, λ t. subst (λ (x : TypedExpr). same_expr e x ≡ true) t (laws-law.refl e))

-- What a check makes of a limit: a parameter, a literal, or a whole number behind a minus.
use Rattle.std.proofs.Common.{◌≡◌, ◌∙◌, ℕ, ◌≤◌, ◌<◌, ℤ, [], refl, ap, sym, subst, inl, inr, arith}
use Rattle.std.specs.Prelude.{◌&&◌, ◌≤ℤ◌, Bool as Truth, true, false, Option, Some, None, pos, negsuc, neg_ℤ, IfSome, ◌==◌, if◌then◌else◌}
use Rattle.std.proofs.Math.Dec.{leb}
use Rattle.std.proofs.lemmas.Bool.{le-leb, leb-false, eqb-false}
use Rattle.pg_values.specs.declared.col_type.ColType.{ColType}
use Rattle.pg_values.specs.declared.col_type.ColType.TheVariants as kind
use Rattle.pg_values.specs.declared.value.Value.TheVariants as value
use Rattle.sql_tree.specs.declared.expr.Expr.{Expr, roll-Expr}
use Rattle.sql_tree.specs.declared.expr.Expr.TheOpen.{Expr-F}
use Rattle.sql_tree.specs.declared.expr.Expr.TheFolds.{fold-roll-Expr}
use Rattle.sql_tree.specs.declared.expr.Expr.TheVariants as expr
use Rattle.sql_tree.specs.Trees.{IsLimit, IsLiteral, IsTree}
use Rattle.typed_sql.specs.declared.asks.Takes.TheVariants.{Whole}
use Rattle.typed_sql.specs.declared.typed.TypedExpr.{TypedExpr}
use Rattle.typed_sql.specs.declared.typed.TypedForm.TheVariants as form
use Rattle.typed_sql.specs.Places.{asks_limit, asks_number, number_kind}
use Rattle.typed_sql.specs.Own.{Scope, Own, own, own_layer, is_least_int4, joined_kind}
use Rattle.typed_sql.specs.Steps.{Maybe}
use Rattle.typed_sql.specs.Typing.{Typed, Negative, Parameter, literal, number_of, typed}
use Rattle.checked_sql.specs.Sound.{stands}
use Rattle.checked_sql.specs.OfCatalogue.{is_limit, is_limit_form, is_written_form}
use Rattle.checked_sql.proofs.Kept.{both_true}
use Rattle.checked_sql.proofs.Limits.{limit_literal, limit_minus, limit_param}
use Rattle.statement_laws.proofs.Keeping.{Meant, Keeps, along, both, gives, made}
use Rattle.statement_laws.proofs.SoundNodes.{IsParameter, Stood, any_layer, good, names_at, parameter_keeps}
use Rattle.statement_laws.proofs.SoundTrees.{unrolled}

-- ---- whole numbers

number_is_limit : (k : ColType) (n : ℤ) → is_limit_form (number_of k n).form ≡ true
number_is_limit kind.Bool n = limit_literal (form.Literal (value.Int8 n)) (value.Int8 n) refl
number_is_limit kind.Int4 n = limit_literal (form.Literal (value.Int4 n)) (value.Int4 n) refl
number_is_limit kind.Int8 n = limit_literal (form.Literal (value.Int8 n)) (value.Int8 n) refl
number_is_limit kind.Text n = limit_literal (form.Literal (value.Int8 n)) (value.Int8 n) refl
number_is_limit kind.Moment n = limit_literal (form.Literal (value.Int8 n)) (value.Int8 n) refl

-- behind a minus, a number that is not 2147483648
written_by : (some small : Truth) (m : ℕ) → some ≡ true → leb m 2147483647 ≡ small → (m == 2147483648) ≡ false
    → is_written_form (number_of (if some && small then kind.Int4 else kind.Int8) (pos m)).form ≡ true
written_by true true m none is other = le-leb 0 m (omega arith)
written_by true false m none is other =
    let above : 2147483647 < m = leb-false m 2147483647 is in
    let not_it : m ≡ 2147483648 → ⊥ = eqb-false m 2147483648 other in
    le-leb 2147483649 m (omega arith)
written_by false small m none is other = absurd (let f : false ≡ true = none in cc)

number_is_written : (n : ℤ) → pos 0 ≤ℤ n → is_least_int4 n ≡ false → is_written_form (number_of (number_kind n) n).form ≡ true
number_is_written (pos m) least other = written_by (leb 0 m) (leb m 2147483647) m (le-leb 0 m (omega arith)) refl other
number_is_written (negsuc m) least other = absurd (least.le)

own_int : (scope : Scope) (n : ℤ) → (own scope [] (roll-Expr (Expr-F.Int n))).least_int4 ≡ is_least_int4 n
own_int scope n = ap (λ (o : Own). o.least_int4) (fold-roll-Expr Own (Option ColType) (Option ColType) (own_layer scope []) (λ factor. factor.part.kind) (λ summand. summand.part.kind) (Expr-F.Int n))

-- ---- limits

module _ (scope : Scope) where
  abbrev Limits : Meant TypedExpr
  Limits final e = is_limit_form e.form ≡ true

  abbrev Written : Meant TypedExpr
  Written final e = is_written_form e.form ≡ true

  int_tree : (n : ℤ) → IsLiteral n → IsTree (roll-Expr (Expr-F.Int n))
  int_tree n is = subst (λ (T : Type 0). T) (sym (unrolled (Expr-F.Int n))) is

  limit_of : (e : Expr) → IsTree e → Keeps Limits (Typed scope e asks_limit) → Keeps (λ final limit. is_limit (names_at scope final) limit ≡ true) (Maybe (λ e. Typed scope e asks_limit) (Some e))
  limit_of e tree keeps =
      made (λ final t. Limits final t × Stood scope Whole final t) (λ final limit. is_limit (names_at scope final) limit ≡ true) Some (Typed scope e asks_limit)
      (both Limits (Stood scope Whole) (Typed scope e asks_limit) keeps (good scope e tree asks_limit))
      (λ t final is. both_true (is_limit_form t.form) (stands (names_at scope final) Whole t) is.0 is.1)

  number_keeps : (n : ℤ) → Keeps Limits (Typed scope (roll-Expr (Expr-F.Int n)) asks_limit)
  number_keeps n = any_layer scope Limits (Expr-F.Int n) (λ leaf. gives Limits (number_of (number_kind n) n) (λ final. number_is_limit (number_kind n) n)) asks_limit

  written_keeps : (n : ℤ) → pos 0 ≤ℤ n → is_least_int4 n ≡ false → Keeps Written (Typed scope (roll-Expr (Expr-F.Int n)) (asks_number None))
  written_keeps n least other = any_layer scope Written (Expr-F.Int n) (λ leaf. gives Written (number_of (number_kind n) n) (λ final. number_is_written n least other)) (asks_number None)

  negative_by : (n : ℤ) (b : Truth) → pos 0 ≤ℤ n → is_least_int4 n ≡ b → Keeps Limits (Negative b (Typed scope) (roll-Expr (Expr-F.Int n)))
  negative_by n true least is = gives Limits (literal kind.Int4 (value.Int4 (neg_ℤ (pos 2147483648))))
      (λ final. limit_literal (form.Literal (value.Int4 (neg_ℤ (pos 2147483648)))) (value.Int4 (neg_ℤ (pos 2147483648))) refl)
  negative_by n false least is =
      made Written Limits (λ e. typed (joined_kind (Some e.kind) None) (form.Minus e)) (Typed scope (roll-Expr (Expr-F.Int n)) (asks_number None)) (written_keeps n least is) (λ e final written. limit_minus (form.Minus e) e refl ∙ written)

  minus_keeps : (n : ℤ) → pos 0 ≤ℤ n → Keeps Limits (Typed scope (roll-Expr (Expr-F.Minus (roll-Expr (Expr-F.Int n)))) asks_limit)
  minus_keeps n least =
      any_layer scope Limits (Expr-F.Minus (roll-Expr (Expr-F.Int n)))
      (λ leaf. negative_by n (own scope [] (roll-Expr (Expr-F.Int n))).least_int4 least (sym (own_int scope n))) asks_limit

  null_keeps : Keeps Limits (Typed scope (roll-Expr Expr-F.Null) asks_limit)
  null_keeps = any_layer scope Limits Expr-F.Null (λ leaf. gives Limits (literal leaf value.Null) (λ final. limit_literal (form.Literal value.Null) value.Null refl)) asks_limit

  param_keeps : (n : ℕ) → 1 ≤ n → Keeps Limits (Typed scope (roll-Expr (Expr-F.Param n)) asks_limit)
  param_keeps n least =
      any_layer scope Limits (Expr-F.Param n)
      (λ leaf. along (IsParameter scope n) Limits (Parameter scope.parameters leaf n) (parameter_keeps scope scope.parameters leaf n least) (λ e final is. limit_param e.form n is.1)) asks_limit

  abbrev pub LimitIs : Meant (Option TypedExpr)
  LimitIs final limit = is_limit (names_at scope final) limit ≡ true

  abbrev MayBe : Expr → Type 0
  MayBe e = Keeps LimitIs (Maybe (λ e. Typed scope e asks_limit) (Some e))

  some_keeps : (e : Expr) → IsLimit e → MayBe e
  some_keeps e (inl x) =
      subst MayBe (expr.rolls-Int x.0 ∙ sym x.1.1) (limit_of (roll-Expr (Expr-F.Int x.0)) (int_tree x.0 x.1.0) (number_keeps x.0))
  some_keeps e (inr (inl x)) =
      let n = x.0 in
      let rolled : roll-Expr (Expr-F.Minus (roll-Expr (Expr-F.Int n))) ≡ expr.Minus (expr.Int n) = ap (λ (i : Expr). roll-Expr (Expr-F.Minus i)) (expr.rolls-Int n) ∙ expr.rolls-Minus (expr.Int n) in
      subst MayBe (rolled ∙ sym x.1.1)
      (limit_of (roll-Expr (Expr-F.Minus (roll-Expr (Expr-F.Int n))))
      (subst (λ (T : Type 0). T) (sym (unrolled (Expr-F.Minus (roll-Expr (Expr-F.Int n))))) (int_tree n (inl x.1.0))) (minus_keeps n x.1.0))
  some_keeps e (inr (inr (inl is))) =
      subst MayBe (expr.rolls-Null ∙ sym is) (limit_of (roll-Expr Expr-F.Null) (subst (λ (T : Type 0). T) (sym (unrolled Expr-F.Null)) tt) null_keeps)
  some_keeps e (inr (inr (inr x))) =
      subst MayBe (expr.rolls-Param x.0 ∙ sym x.1.1) (limit_of (roll-Expr (Expr-F.Param x.0)) (subst (λ (T : Type 0). T) (sym (unrolled (Expr-F.Param x.0))) x.1.0) (param_keeps x.0 x.1.0))

  pub limit_keeps : (limit : Option Expr) → IfSome limit IsLimit → Keeps LimitIs (Maybe (λ e. Typed scope e asks_limit) limit)
  limit_keeps None is = gives LimitIs None (λ final. refl)
  limit_keeps (Some e) is = some_keeps e is

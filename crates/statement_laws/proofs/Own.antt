-- The own type of each form of an expression.
use Rattle.std.proofs.Common.{◌≡◌, ◌∙◌, ℕ, ℤ, List, ap, sym}
use Rattle.std.specs.Prelude.{Bool as Truth, Option, Some, None}
use Rattle.pg_values.specs.declared.col_type.ColType.{ColType}
use Rattle.pg_values.specs.declared.col_type.ColType.TheVariants as kind
use Rattle.sql_tree.specs.declared.expr.Comparison.{Comparison}
use Rattle.sql_tree.specs.declared.expr.Expr.{Expr}
use Rattle.sql_tree.specs.declared.expr.Expr.TheOpen.{Expr-F}
use Rattle.sql_tree.specs.declared.expr.Expr.TheFolds.{fold-roll-Expr}
use Rattle.sql_tree.specs.declared.expr.Expr.TheVariants as expr
use Rattle.typed_sql.specs.Places.{number_kind}
use Rattle.typed_sql.specs.Steps.{Known, known_kind}
use Rattle.typed_sql.specs.Own.{Scope, Own, column_meant, is_least_int4, kind_meant, of_kind, own, own_layer}

module _ (scope : Scope) (known : Known) where
  pub own_or : (xs : List Expr) → own scope known (expr.Or xs) ≡ of_kind (Some kind.Bool)
  own_or xs = ap (own scope known) (sym (expr.rolls-Or xs)) ∙ fold-roll-Expr Own (Option ColType) (Option ColType) (own_layer scope known) (λ factor. factor.part.kind) (λ summand. summand.part.kind) (Expr-F.Or xs)

  pub own_and : (xs : List Expr) → own scope known (expr.And xs) ≡ of_kind (Some kind.Bool)
  own_and xs = ap (own scope known) (sym (expr.rolls-And xs)) ∙ fold-roll-Expr Own (Option ColType) (Option ColType) (own_layer scope known) (λ factor. factor.part.kind) (λ summand. summand.part.kind) (Expr-F.And xs)

  pub own_not : (x : Expr) → own scope known (expr.Not x) ≡ of_kind (Some kind.Bool)
  own_not x = ap (own scope known) (sym (expr.rolls-Not x)) ∙ fold-roll-Expr Own (Option ColType) (Option ColType) (own_layer scope known) (λ factor. factor.part.kind) (λ summand. summand.part.kind) (Expr-F.Not x)

  pub own_is_null : (x : Expr) (tests : List Truth) → own scope known (expr.IsNull x tests) ≡ of_kind (Some kind.Bool)
  own_is_null x tests = ap (own scope known) (sym (expr.rolls-IsNull x tests)) ∙ fold-roll-Expr Own (Option ColType) (Option ColType) (own_layer scope known) (λ factor. factor.part.kind) (λ summand. summand.part.kind) (Expr-F.IsNull x tests)

  pub own_compare : (how : Comparison) (x y : Expr) → own scope known (expr.Compare how x y) ≡ of_kind (Some kind.Bool)
  own_compare how x y = ap (own scope known) (sym (expr.rolls-Compare how x y)) ∙ fold-roll-Expr Own (Option ColType) (Option ColType) (own_layer scope known) (λ factor. factor.part.kind) (λ summand. summand.part.kind) (Expr-F.Compare how x y)

  pub own_member : (x : Expr) (negated : Truth) (xs : List Expr) → own scope known (expr.Member x negated xs) ≡ of_kind (Some kind.Bool)
  own_member x negated xs = ap (own scope known) (sym (expr.rolls-Member x negated xs)) ∙ fold-roll-Expr Own (Option ColType) (Option ColType) (own_layer scope known) (λ factor. factor.part.kind) (λ summand. summand.part.kind) (Expr-F.Member x negated xs)

  pub own_concat : (xs : List Expr) → own scope known (expr.Concat xs) ≡ of_kind (Some kind.Text)
  own_concat xs = ap (own scope known) (sym (expr.rolls-Concat xs)) ∙ fold-roll-Expr Own (Option ColType) (Option ColType) (own_layer scope known) (λ factor. factor.part.kind) (λ summand. summand.part.kind) (Expr-F.Concat xs)

  pub own_int : (n : ℤ) → own scope known (expr.Int n) ≡ record { kind = Some (number_kind n); least_int4 = is_least_int4 n }
  own_int n = ap (own scope known) (sym (expr.rolls-Int n)) ∙ fold-roll-Expr Own (Option ColType) (Option ColType) (own_layer scope known) (λ factor. factor.part.kind) (λ summand. summand.part.kind) (Expr-F.Int n)

  pub own_str : (text : List ℕ) → own scope known (expr.Str text) ≡ of_kind None
  own_str text = ap (own scope known) (sym (expr.rolls-Str text)) ∙ fold-roll-Expr Own (Option ColType) (Option ColType) (own_layer scope known) (λ factor. factor.part.kind) (λ summand. summand.part.kind) (Expr-F.Str text)

  pub own_bool : (b : Truth) → own scope known (expr.Bool b) ≡ of_kind (Some kind.Bool)
  own_bool b = ap (own scope known) (sym (expr.rolls-Bool b)) ∙ fold-roll-Expr Own (Option ColType) (Option ColType) (own_layer scope known) (λ factor. factor.part.kind) (λ summand. summand.part.kind) (Expr-F.Bool b)

  pub own_null : own scope known expr.Null ≡ of_kind None
  own_null = ap (own scope known) (sym expr.rolls-Null) ∙ fold-roll-Expr Own (Option ColType) (Option ColType) (own_layer scope known) (λ factor. factor.part.kind) (λ summand. summand.part.kind) Expr-F.Null

  pub own_param : (n : ℕ) → own scope known (expr.Param n) ≡ of_kind (known_kind n known)
  own_param n = ap (own scope known) (sym (expr.rolls-Param n)) ∙ fold-roll-Expr Own (Option ColType) (Option ColType) (own_layer scope known) (λ factor. factor.part.kind) (λ summand. summand.part.kind) (Expr-F.Param n)

  pub own_column : (q : Option (List ℕ)) (name : List ℕ) → own scope known (expr.Column q name) ≡ of_kind (kind_meant (column_meant scope q name))
  own_column q name = ap (own scope known) (sym (expr.rolls-Column q name)) ∙ fold-roll-Expr Own (Option ColType) (Option ColType) (own_layer scope known) (λ factor. factor.part.kind) (λ summand. summand.part.kind) (Expr-F.Column q name)

  pub own_current : own scope known expr.CurrentTimestamp ≡ of_kind (Some kind.Moment)
  own_current = ap (own scope known) (sym expr.rolls-CurrentTimestamp) ∙ fold-roll-Expr Own (Option ColType) (Option ColType) (own_layer scope known) (λ factor. factor.part.kind) (λ summand. summand.part.kind) Expr-F.CurrentTimestamp

  pub own_now : own scope known expr.Now ≡ of_kind (Some kind.Moment)
  own_now = ap (own scope known) (sym expr.rolls-Now) ∙ fold-roll-Expr Own (Option ColType) (Option ColType) (own_layer scope known) (λ factor. factor.part.kind) (λ summand. summand.part.kind) Expr-F.Now

  pub own_transaction : own scope known expr.TransactionTimestamp ≡ of_kind (Some kind.Moment)
  own_transaction = ap (own scope known) (sym expr.rolls-TransactionTimestamp) ∙ fold-roll-Expr Own (Option ColType) (Option ColType) (own_layer scope known) (λ factor. factor.part.kind) (λ summand. summand.part.kind) Expr-F.TransactionTimestamp

  pub own_moment : (text : List ℕ) → own scope known (expr.Moment text) ≡ of_kind (Some kind.Moment)
  own_moment text = ap (own scope known) (sym (expr.rolls-Moment text)) ∙ fold-roll-Expr Own (Option ColType) (Option ColType) (own_layer scope known) (λ factor. factor.part.kind) (λ summand. summand.part.kind) (Expr-F.Moment text)

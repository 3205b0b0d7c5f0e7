-- What type each form of an expression has of itself.
use Rattle.std.proofs.Common.{rules, ◌≡◌, ℕ, ◌+◌, ◌<◌, ℤ, List, [], ◌∷◌, map, drop, get_or, length, true, false, ap, sym, ◌∙◌, refl}
use Rattle.std.specs.Prelude.{Bool as Truth, Option, Some, None, if◌then◌else◌}
use Rattle.std.proofs.lemmas.List.{at_drop_more}
use Rattle.pg_values.specs.declared.col_type.ColType.{ColType}
use Rattle.pg_values.specs.declared.col_type.ColType.TheVariants as kind
use Rattle.sql_tree.specs.declared.expr.Comparison.{Comparison}
use Rattle.sql_tree.specs.declared.expr.SumPart.{SumPart, fold-SumPart}
use Rattle.sql_tree.specs.declared.expr.ProductPart.{ProductPart, fold-ProductPart}
use Rattle.sql_tree.specs.declared.expr.Expr.{Expr, the_lemmas}
use Rattle.sql_tree.specs.declared.expr.Expr.TheOpen.{Expr-F}
use Rattle.sql_tree.specs.declared.expr.Expr.TheFolds.{fold-roll-Expr}
use Rattle.sql_tree.specs.declared.expr.Expr.TheVariants as forms
use Rattle.typed_sql.specs.Places.{number_kind}
use Rattle.typed_sql.specs.Steps.{Known, known_kind}
use Rattle.typed_sql.specs.Own.{Scope, Own, own, own_kind, own_layer, of_kind, is_least_int4, chained_kind, joined_kind, minus_kind, first_kind, kind_meant, column_meant}

module _ (scope : Scope) (known : Known) where
  abbrev folded_summand : SumPart → Option ColType
  folded_summand = fold-SumPart Own (Option ColType) (Option ColType) (own_layer scope known) (λ factor. factor.part.kind) (λ summand. summand.part.kind)

  abbrev folded_factor : ProductPart → Option ColType
  folded_factor = fold-ProductPart Own (Option ColType) (Option ColType) (own_layer scope known) (λ factor. factor.part.kind) (λ summand. summand.part.kind)

  summands_own : (xs : List SumPart) → map folded_summand xs ≡ map (λ s. own_kind scope known s.part) xs
  summands_own [] = refl
  summands_own (x ∷ xs) =
      let same : folded_summand x ≡ own_kind scope known x.part = search (rules, the_lemmas) in
      ap (λ more. folded_summand x ∷ more) (summands_own xs) ∙ ap (λ k. k ∷ map (λ s. own_kind scope known s.part) xs) same

  factors_own : (xs : List ProductPart) → map folded_factor xs ≡ map (λ s. own_kind scope known s.part) xs
  factors_own [] = refl
  factors_own (x ∷ xs) =
      let same : folded_factor x ≡ own_kind scope known x.part = search (rules, the_lemmas) in
      ap (λ more. folded_factor x ∷ more) (factors_own xs) ∙ ap (λ k. k ∷ map (λ s. own_kind scope known s.part) xs) same

  pub own_sum : (first : Expr) (parts : List SumPart) → own scope known (forms.Sum first parts)
      ≡ of_kind (chained_kind (own_kind scope known first) (map (λ s. own_kind scope known s.part) parts))
  own_sum first parts = ap (own scope known) (sym (forms.rolls-Sum first parts))
      ∙ (fold-roll-Expr Own (Option ColType) (Option ColType) (own_layer scope known) (λ factor. factor.part.kind) (λ summand. summand.part.kind) (Expr-F.Sum first parts)
      ∙ ap (λ kinds. of_kind (chained_kind (own_kind scope known first) kinds)) (summands_own parts))

  pub own_product : (first : Expr) (parts : List ProductPart) → own scope known (forms.Product first parts)
      ≡ of_kind (chained_kind (own_kind scope known first) (map (λ s. own_kind scope known s.part) parts))
  own_product first parts = ap (own scope known) (sym (forms.rolls-Product first parts))
      ∙ (fold-roll-Expr Own (Option ColType) (Option ColType) (own_layer scope known) (λ factor. factor.part.kind) (λ summand. summand.part.kind) (Expr-F.Product first parts)
      ∙ ap (λ kinds. of_kind (chained_kind (own_kind scope known first) kinds)) (factors_own parts))

  pub own_minus : (of : Expr) → own scope known (forms.Minus of) ≡ of_kind (Some (minus_kind (own scope known of)))
  own_minus of = ap (own scope known) (sym (forms.rolls-Minus of))
      ∙ fold-roll-Expr Own (Option ColType) (Option ColType) (own_layer scope known) (λ factor. factor.part.kind) (λ summand. summand.part.kind) (Expr-F.Minus of)

-- the forms whose types come from their parts
pub ruleset own_forms = (own_sum, own_product, own_minus)

-- the number 2147483648 behind a minus, and any other number
pub least_kind : (o : Own) → true ≡ o.least_int4 → kind.Int4 ≡ minus_kind o
least_kind o is = ap (λ (b : Truth). if b then kind.Int4 else joined_kind o.kind None) is

pub other_kind : (o : Own) (k : ColType) → false ≡ o.least_int4 → k ≡ joined_kind o.kind None → k ≡ minus_kind o
other_kind o k is same = same ∙ ap (λ (b : Truth). if b then kind.Int4 else joined_kind o.kind None) is

-- the next part of a chain
pub chained_next : {A : Type 0} (f : A → Option ColType) (xs : List A) (i : ℕ) (k whole : Option ColType) (x : A) (o : Option ColType) (j : ColType)
    → i < length xs → x ≡ get_or xs i x → chained_kind k (map f (drop i xs)) ≡ whole → o ≡ f x → j ≡ joined_kind k o
    → chained_kind (Some j) (map f (drop (i + 1) xs)) ≡ whole
chained_next f xs i k whole x o j below is so_far own_is joins =
    ap (λ n. chained_kind (Some n) (map f (drop (i + 1) xs))) (joins ∙ ap (joined_kind k) (own_is ∙ ap f is))
    ∙ (sym (at_drop_more (λ ys. chained_kind k (map f ys)) xs i x below) ∙ so_far)

-- the next entry has a type, and it has none
pub first_here : {A : Type 0} (f : A → Option ColType) (xs : List A) (i : ℕ) (x : A) (k : ColType)
    → i < length xs → x ≡ get_or xs i x → first_kind (map f xs) ≡ first_kind (map f (drop i xs)) → f x ≡ Some k
    → Some k ≡ first_kind (map f xs)
first_here f xs i x k below is so_far has =
    sym (so_far ∙ (at_drop_more (λ ys. first_kind (map f ys)) xs i x below
    ∙ ap (λ o. first_kind (o ∷ map f (drop (i + 1) xs))) (ap f (sym is) ∙ has)))

pub first_on : {A : Type 0} (f : A → Option ColType) (xs : List A) (i : ℕ) (x : A)
    → i < length xs → x ≡ get_or xs i x → first_kind (map f xs) ≡ first_kind (map f (drop i xs)) → f x ≡ None
    → first_kind (map f xs) ≡ first_kind (map f (drop (i + 1) xs))
first_on f xs i x below is so_far has =
    so_far ∙ (at_drop_more (λ ys. first_kind (map f ys)) xs i x below
    ∙ ap (λ o. first_kind (o ∷ map f (drop (i + 1) xs))) (ap f (sym is) ∙ has))

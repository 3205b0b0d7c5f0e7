-- A tree of the grammar by its layers.
use Rattle.std.proofs.Common.{◌≡◌, ◌∙◌, ◌≤◌, ℕ, List, [], ◌∷◌, length, map, refl, sym, ap, subst}
use Rattle.std.specs.List.{AllByRecursion}
use Rattle.std.proofs.lemmas.List.{length-map}
use Rattle.sql_tree.specs.declared.expr.Expr.{Expr, roll-Expr, map-Expr}
use Rattle.sql_tree.specs.declared.expr.Expr.TheOpen.{Expr-F, ProductPart-F, SumPart-F}
use Rattle.sql_tree.specs.declared.expr.Expr.TheFolds.{rec-roll-Expr, rec-roll-SumPart, rec-roll-ProductPart}
use Rattle.sql_tree.specs.declared.expr.SumPart.{SumPart, rec-SumPart, out-SumPart, roll-out-SumPart}
use Rattle.sql_tree.specs.declared.expr.ProductPart.{ProductPart, rec-ProductPart, out-ProductPart, roll-out-ProductPart}
use Rattle.sql_tree.specs.Trees.{IsTree, IsLayer, AreParts}

module _ {X Y : Type 0} (k : Y → Type 0) (v : X → Y) where
  every_map : (xs : List X) → AllByRecursion (λ x. k (v x)) xs ≡ AllByRecursion k (map v xs)
  every_map [] = refl
  every_map (x ∷ xs) = ap (λ (T : Type 0). k (v x) × T) (every_map xs)

  parts_map : (n : ℕ) (xs : List X) → AreParts (λ x. k (v x)) n xs ≡ AreParts k n (map v xs)
  parts_map n xs =
      ap (λ (m : ℕ). (n ≤ m) × AllByRecursion (λ x. k (v x)) xs) (sym (length-map xs v))
      ∙ ap (λ (T : Type 0). (n ≤ length (map v xs)) × T) (every_map xs)

module _ {X P S : Type 0} (v : X → Expr) (w : P → ProductPart) (u : S → SumPart) (k : Expr → Type 0) (l : ProductPart → Type 0) (m : SumPart → Type 0) where
  layer_map : (x : Expr-F X P S) → IsLayer (λ y. k (v y)) (λ y. l (w y)) (λ y. m (u y)) x ≡ IsLayer k l m (map-Expr X P S Expr ProductPart SumPart v w u x)
  layer_map (Expr-F.Or parts) = parts_map k v 2 parts
  layer_map (Expr-F.And parts) = parts_map k v 2 parts
  layer_map (Expr-F.Member x negated entries) = ap (λ (T : Type 0). k (v x) × T) (parts_map k v 1 entries)
  layer_map (Expr-F.Concat parts) = parts_map k v 2 parts
  layer_map (Expr-F.Sum x summands) = ap (λ (T : Type 0). k (v x) × T) (parts_map m u 1 summands)
  layer_map (Expr-F.Product x factors) = ap (λ (T : Type 0). k (v x) × T) (parts_map l w 1 factors)
  layer_map _ = refl

abbrev expr_step : (X P S : Type 0) → (X → Expr) → (P → ProductPart) → (S → SumPart) → (X → Type 0) → (P → Type 0) → (S → Type 0) → Expr-F X P S → Type 0
expr_step X P S expr factor summand IsPart IsFactor IsSummand layer = IsLayer IsPart IsFactor IsSummand layer

abbrev factor_step : (X P S : Type 0) → (X → Expr) → (P → ProductPart) → (S → SumPart) → (X → Type 0) → (P → Type 0) → (S → Type 0) → ProductPart-F X P S → Type 0
factor_step X P S expr factor summand IsPart IsFactor IsSummand layer = IsPart layer.part

abbrev summand_step : (X P S : Type 0) → (X → Expr) → (P → ProductPart) → (S → SumPart) → (X → Type 0) → (P → Type 0) → (S → Type 0) → SumPart-F X P S → Type 0
summand_step X P S expr factor summand IsPart IsFactor IsSummand layer = IsPart layer.part

abbrev is_factor : ProductPart → Type 0
is_factor = rec-ProductPart (Type 0) (Type 0) (Type 0) expr_step factor_step summand_step

abbrev is_summand : SumPart → Type 0
is_summand = rec-SumPart (Type 0) (Type 0) (Type 0) expr_step factor_step summand_step

-- a tree is its layer
unrolled : (x : Expr-F Expr ProductPart SumPart) → IsTree (roll-Expr x) ≡ IsLayer IsTree is_factor is_summand x
unrolled x = rec-roll-Expr (Type 0) (Type 0) (Type 0) expr_step factor_step summand_step (λ X P S v w u k l m y. layer_map v w u k l m y) x

factor_is : (p : ProductPart) → is_factor p ≡ IsTree p.part
factor_is p = ap is_factor (sym (roll-out-ProductPart p))
    ∙ rec-roll-ProductPart (Type 0) (Type 0) (Type 0) expr_step factor_step summand_step (λ X P S v w u k l m y. refl) (out-ProductPart p)

summand_is : (s : SumPart) → is_summand s ≡ IsTree s.part
summand_is s = ap is_summand (sym (roll-out-SumPart s))
    ∙ rec-roll-SumPart (Type 0) (Type 0) (Type 0) expr_step factor_step summand_step (λ X P S v w u k l m y. refl) (out-SumPart s)

every_back : {A : Type 0} (P Q : A → Type 0) → ((a : A) → P a ≡ Q a) → (xs : List A) → AllByRecursion Q xs → AllByRecursion P xs
every_back P Q same [] all = tt
every_back P Q same (x ∷ xs) all = (subst (λ (T : Type 0). T) (sym (same x)) all.0, every_back P Q same xs all.1)

by_parts : (x : Expr-F Expr ProductPart SumPart) → IsLayer IsTree (λ p. IsTree p.part) (λ s. IsTree s.part) x → IsLayer IsTree is_factor is_summand x
by_parts (Expr-F.Sum e summands) tree = (tree.0, (tree.1.0, every_back is_summand (λ s. IsTree s.part) summand_is summands tree.1.1))
by_parts (Expr-F.Product e factors) tree = (tree.0, (tree.1.0, every_back is_factor (λ p. IsTree p.part) factor_is factors tree.1.1))
by_parts _ tree = tree

-- a layer whose parts are of the grammar is a tree of it
pub layer_tree : (x : Expr-F Expr ProductPart SumPart) (e : Expr) → roll-Expr x ≡ e → IsLayer IsTree (λ p. IsTree p.part) (λ s. IsTree s.part) x → IsTree e
layer_tree x e is tree = subst IsTree is (subst (λ (T : Type 0). T) (sym (unrolled x)) (by_parts x tree))

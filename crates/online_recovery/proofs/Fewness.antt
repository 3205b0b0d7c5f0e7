-- How many tables a schema can have, and how many columns a table.
use Rattle.std.proofs.Common.{◌≡◌, ◌≤◌, ◌<◌, ℕ, zero, suc, List, [], ◌∷◌, ◌++◌, length, Some, None, refl, subst, arith}
use Rattle.std.specs.Prelude.{Option, slice_get}
use Rattle.std.proofs.Math.Logic.{∥∥₁_elim}
use Rattle.std.specs.Coded.{le_prop}
use Rattle.schema.specs.declared.catalogue.TableDef.{TableDef}
use Rattle.schema.specs.Allowed.{AreAllowed, AreTables}
use Rattle.sql_eval.specs.Views.{columns_of}

pub few_tables : (tables : List TableDef) → ∥ AreAllowed tables ∥₁ → length tables ≤ 64
few_tables tables allowed = ∥∥₁_elim allowed le_prop (λ (a : AreAllowed tables). a.0)

columns_at : (before tables : List TableDef) (n : ℕ) → AreTables before tables → length (columns_of (slice_get tables n)) ≤ 32
columns_at before [] n are = omega arith
columns_at before (table ∷ tables) zero are = are.0.few
columns_at before (table ∷ tables) (suc n) are = columns_at (before ++ table ∷ []) tables n are.1

pub few_columns : (tables : List TableDef) (n : ℕ) → ∥ AreAllowed tables ∥₁ → length (columns_of (slice_get tables n)) ≤ 32
few_columns tables n allowed = ∥∥₁_elim allowed le_prop (λ (a : AreAllowed tables). columns_at [] tables n a.1)

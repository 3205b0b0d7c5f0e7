-- Tables that a schema can have are not too many, nor too wide.
use Rattle.std.proofs.Common.{◌≤◌, List, [], ◌∷◌, ◌++◌, length}
use Rattle.std.specs.Prelude.{All}
use Rattle.std.proofs.lemmas.List.Elements.{All-nil, All-cons}
use Rattle.schema.specs.declared.catalogue.TableDef.{TableDef}
use Rattle.schema.specs.Grammar.{IsWithin}
use Rattle.schema.specs.Allowed.{AreAllowed, AreTables}

few_columns : (before tables : List TableDef) → AreTables before tables → All (λ t. length t.columns ≤ 32) tables
few_columns before [] are = All-nil (λ (t : TableDef). length t.columns ≤ 32)
few_columns before (table ∷ tables) are = All-cons (λ (t : TableDef). length t.columns ≤ 32) table tables (are.0).few (few_columns (before ++ table ∷ []) tables are.1)

pub within_of : (tables : List TableDef) → AreAllowed tables → IsWithin tables
within_of tables allowed = (allowed.0, few_columns [] tables allowed.1)

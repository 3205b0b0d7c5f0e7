use Rattle.std.proofs.Common.{◌≡◌, ◌++◌, [], ◌∷◌, ℕ, List, map, take}
use Rattle.std.specs.Prelude.{Ok}
use Rattle.schema.specs.declared.catalogue.ColumnDef.{ColumnDef}
use Rattle.typed_sql.specs.Steps.{Walk, reached}
use Rattle.typed_sql.specs.Meaning.{scope_of}
use Rattle.catalogue.specs.Statements.{Name}
use Rattle.catalogue.specs.Targets.{target_of}
use Rattle.catalogue.proofs.insert.names_of.Given as goal

abbrev pub invariant-loop-name : goal.invariant-loop-name
invariant-loop-name l =
    Walk (Name (scope_of l.check.scope)) (λ before x. before ++ x.0 ∷ []) [] (take l.name-index l.names) l.known
    (Ok (map target_of l.given, l.known))
    × (l.before ≡ reached (λ (before : List ℕ) (x : ℕ × ColumnDef). before ++ x.0 ∷ []) [] (map target_of l.given))

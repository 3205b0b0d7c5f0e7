use Rattle.std.proofs.Common.{◌≡◌, ◌++◌, [], ◌∷◌, ℕ, List, take}
use Rattle.std.specs.Prelude.{Ok}
use Rattle.typed_sql.specs.Steps.{Walk, reached}
use Rattle.typed_sql.specs.Meaning.{scope_of}
use Rattle.catalogue.specs.declared.checked.TypedSet.{TypedSet}
use Rattle.catalogue.specs.Statements.{SetOf}
use Rattle.catalogue.proofs.change.sets_of.Given as goal

abbrev pub invariant-loop-item : goal.invariant-loop-item
invariant-loop-item l =
    Walk (SetOf (scope_of l.check.scope) l.key) (λ before s. before ++ s.column ∷ []) [] (take l.item-index l.items) l.initial.known.items (Ok (l.sets, l.known.items))
    × (l.before ≡ reached (λ (before : List ℕ) (s : TypedSet). before ++ s.column ∷ []) [] l.sets)

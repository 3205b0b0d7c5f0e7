-- The changes of all sets of a log.
use Rattle.std.specs.Prelude.{List, [], ◌∷◌, ◌++◌}
use Rattle.sql_eval.specs.declared.effect.Change.{Change}
use Rattle.outcomes.specs.declared.change.ChangeSet.{ChangeSet}

-- one set behind another
abbrev pub changes_in : List ChangeSet → List Change
changes_in [] = []
changes_in (set ∷ sets) = set.changes.items ++ changes_in sets

-- The log: sets of changes, as transactions have committed them, oldest first.
use Rattle.std.specs.Prelude.{Bool, List, [], ◌∷◌}
use Rattle.std.specs.List.{list_any}
use Rattle.sql_eval.specs.declared.effect.Change.{Change}
use Rattle.backend_trait.specs.Keys.{Place, is_place}
use Rattle.backend_trait.specs.Rows.{Rows, no_rows, laid_over}
use Rattle.backend_trait.specs.Effect.{changes_of, place_changed}
use Rattle.outcomes.specs.declared.change.ChangeSet.{ChangeSet}

-- whether a place is among those that are changed
abbrev pub is_changed : List Change → Place → Bool
is_changed changes p = list_any (λ c. is_place (place_changed c) p) changes

-- sets laid over rows, one after another
abbrev pub rows_on : Rows → List ChangeSet → Rows
rows_on rows [] = rows
rows_on rows (set ∷ sets) = rows_on (laid_over (changes_of set.changes.items) rows) sets

-- the rows that a log has committed
abbrev pub rows_of : List ChangeSet → Rows
rows_of log = rows_on no_rows log

-- whether one of the sets has changed a place
abbrev pub has_changed : List ChangeSet → Place → Bool
has_changed log p = list_any (λ set. is_changed set.changes.items p) log

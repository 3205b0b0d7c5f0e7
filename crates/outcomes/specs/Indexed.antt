-- The index of a log.
use Rattle.std.specs.Prelude.{◌≤◌, ℕ, List, length, take}
use Rattle.backend_trait.specs.Rows.{Rows}
use Rattle.outcomes.specs.declared.change.ChangeSet.{ChangeSet}
use Rattle.outcomes.specs.declared.index.Index.{Index}
use Rattle.outcomes.specs.Chains.{AreOfSets, all_chained, rows_until}

-- the rows that the first sets have left, so many of them
abbrev pub rows_in_index : Index → ℕ → Rows
rows_in_index index mark = rows_until mark (all_chained index.chains.items)

-- it has the first sets of the log
abbrev pub IsIndexOf : Index → List ChangeSet → Type 0
IsIndexOf index log = (index.sets ≤ length log) × AreOfSets (all_chained index.chains.items) (take index.sets log)

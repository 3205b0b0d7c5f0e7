-- Committed rows, and changes laid over them.
use Rattle.std.specs.Prelude.{ℕ, ◌==◌, if◌then◌else◌, List, [], ◌∷◌, Option, Some, None, filter, map}
use Rattle.std.specs.FinMap as fin
use Rattle.sql_eval.specs.declared.row.Row.{Row}
use Rattle.backend_trait.specs.Keys.{Place, place_order}

-- f, but with value x at i
abbrev pub with_at : {A : Type 0} → (ℕ → A) → ℕ → A → ℕ → A
with_at f i x j = if j == i then x else f j

-- a row at each of some places
abbrev pub Rows : Type 0
Rows = fin.FinMap place_order Row

-- at each of some places a new row, or none any more
abbrev pub Changes : Type 0
Changes = fin.FinMap place_order (Option Row)

abbrev pub no_rows : Rows
no_rows = fin.empty

abbrev pub no_changes : Changes
no_changes = fin.empty

-- one place changed
abbrev pub changed_at : Rows → Place → Option Row → Rows
changed_at rows place (Some row) = fin.insert rows place row
changed_at rows place None = fin.remove rows place

abbrev pub all_changed : List (Place × Option Row) → Rows → Rows
all_changed [] rows = rows
all_changed (change ∷ changes) rows = changed_at (all_changed changes rows) change.0 change.1

-- the rows with the changes laid over them
abbrev pub laid_over : Changes → Rows → Rows
laid_over changes rows = all_changed (fin.entries changes) rows

abbrev pub all_joined : List (Place × Option Row) → Changes → Changes
all_joined [] old = old
all_joined (change ∷ changes) old = fin.insert (all_joined changes old) change.0 change.1

-- the new changes over the old
abbrev pub joined_changes : Changes → Changes → Changes
joined_changes new old = all_joined (fin.entries new) old

-- the rows of a table in the order of their keys
abbrev pub rows_in : Rows → ℕ → List Row
rows_in rows table = map (λ e. e.1) (filter (λ e. e.0.table == table) (fin.entries rows))

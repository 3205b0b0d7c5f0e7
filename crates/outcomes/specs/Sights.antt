-- The rows that a transaction sees, as they stand in a row.
use Rattle.std.specs.Prelude.{◌==◌, not, ℕ, nat_lt, Bool, List, [], ◌∷◌, map, Option, Some, None, if◌then◌else◌}
use Rattle.std.specs.FinMap.{from_sorted}
use Rattle.std.specs.Ordering.{is_gt}
use Rattle.pg_values.specs.declared.value.Value.{Value}
use Rattle.sql_eval.specs.declared.row.Row.{Row}
use Rattle.sql_eval.specs.declared.effect.Change.{Change}
use Rattle.backend_trait.specs.Keys.{Place, place, place_order}
use Rattle.backend_trait.specs.Rows.{Rows, changed_at}
use Rattle.backend_trait.specs.Effect.{place_changed}
use Rattle.outcomes.specs.declared.sight.Seen.{Seen}

-- a row at its place
abbrev pub stood : Seen → Place × Row
stood seen = (place seen.table seen.key.now, seen.row.now)

abbrev pub all_stood : List Seen → List (Place × Row)
all_stood rows = map stood rows

-- the rows that stand so, each at its place
abbrev pub rows_at : List Seen → Rows
rows_at rows = from_sorted (all_stood rows)

-- changes laid over rows, one after another
abbrev pub all_laid : Rows → List Change → Rows
all_laid rows [] = rows
all_laid rows (c ∷ cs) = all_laid (changed_at rows (place_changed c) c.row) cs

-- the row of an entry, if it is of the table
abbrev pub row_in : ℕ → Option (Place × Row) → Option Row
row_in table None = None
row_in table (Some e) = if e.0.table == table then Some e.1 else None

-- an entry of a table before that one, and one that does not stand behind a place
abbrev pub is_before : {Y : Type 0} → ℕ → Place × Y → Bool
is_before table e = nat_lt e.0.table table

abbrev pub is_up_to : {Y : Type 0} → Place → Place × Y → Bool
is_up_to p e = not (is_gt (place_order e.0 p))

-- an entry that does not stand behind a key of a table, or that is of an earlier table where there is no key
abbrev pub is_passed : {Y : Type 0} → ℕ → Option Value → Place × Y → Bool
is_passed table None e = is_before table e
is_passed table (Some key) e = is_up_to (place table key) e

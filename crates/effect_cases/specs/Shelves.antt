-- Rows of the first table of a catalogue, as a view: each under its key, which stands in its first column.
use Rattle.std.specs.Prelude.{Bool as Truth, List, [], ◌∷◌, map, Option, Some, None, is_some, slice_get, if◌then◌else◌}
use Rattle.std.specs.List.{list_all}
use Rattle.std.specs.FinMap as fin
use Rattle.pg_values.specs.declared.value.Value.{Value}
use Rattle.sql_eval.specs.declared.row.Row.{Row}
use Rattle.sql_eval.specs.Views.{View, Place, Entry, place, entry, cell_at, is_behind}

-- a row at its place
abbrev pub stands : Row → Place × Row
stands row = (place 0 (cell_at 0 row), row)

-- the rows at their places, one behind the other
abbrev pub stood : List Row → List (Place × Row)
stood rows = map stands rows

-- rows whose keys rise, as a view
abbrev pub view_of : List Row → View
view_of rows = fin.from_sorted (stood rows)

abbrev pub has_key : Row → Truth
has_key row = is_some (slice_get row.cells 0)

-- each row has a first cell
abbrev pub have_keys : List Row → Truth
have_keys rows = list_all has_key rows

-- a row under its key
abbrev pub keyed : Row → Entry
keyed row = entry (cell_at 0 row) row

-- the first row behind a key, or of all
abbrev pub first_behind : Option Value → List Row → Option Row
first_behind key [] = None
first_behind key (row ∷ rows) = if is_behind key (keyed row) then Some row else first_behind key rows

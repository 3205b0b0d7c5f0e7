-- The rows of a table apart from those of others.
use Rattle.std.specs.Prelude.{◌≡◌, ◌==◌, ℕ, Bool as Truth, true, false, Option, Some, None}
use Rattle.std.specs.FinMap as fin
use Rattle.sql_eval.specs.Views.{View, Place}

-- the rows of the table alone; without a table none
abbrev pub is_in : Option ℕ → Place → Truth
is_in None p = false
is_in (Some table) p = p.table == table

abbrev pub apart : View → Option ℕ → View
apart view table = fin.retain_keys view (is_in table)

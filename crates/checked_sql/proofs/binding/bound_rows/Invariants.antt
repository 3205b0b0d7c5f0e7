use Rattle.std.proofs.Common.{◌≡◌, map, take}
use Rattle.checked_sql.specs.Binding.{bound_cell}
use Rattle.checked_sql.proofs.binding.bound_rows.Given as goal

abbrev pub invariant-loop-row : goal.invariant-loop-row
invariant-loop-row l = l.made ≡ map (map (bound_cell l.values)) (take l.row-index l.row-items)

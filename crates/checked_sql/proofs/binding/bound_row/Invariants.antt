use Rattle.std.proofs.Common.{◌≡◌, map, take}
use Rattle.checked_sql.specs.Binding.{bound_cell}
use Rattle.checked_sql.proofs.binding.bound_row.Given as goal

abbrev pub invariant-loop-cell : goal.invariant-loop-cell
invariant-loop-cell l = l.made ≡ map (bound_cell l.values) (take l.cell-index l.cell-items)

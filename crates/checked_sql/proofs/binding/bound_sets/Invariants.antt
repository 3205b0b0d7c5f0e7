use Rattle.std.proofs.Common.{◌≡◌, map, take}
use Rattle.checked_sql.specs.Binding.{bound_set}
use Rattle.checked_sql.proofs.binding.bound_sets.Given as goal

abbrev pub invariant-loop-set : goal.invariant-loop-set
invariant-loop-set l = l.made ≡ map (bound_set l.values) (take l.set-index l.set-items)

use Rattle.std.proofs.Common.{◌≡◌, map, take}
use Rattle.checked_sql.specs.Binding.{bound, bound_factor, bound_summand}
use Rattle.checked_sql.proofs.bind_expr.+binding.Given as goal

abbrev pub invariant-bound_all-loop-part : goal.invariant-bound_all-loop-part
invariant-bound_all-loop-part l = l.made ≡ map (bound l.values) (take l.part-index l.part-items)

abbrev pub invariant-bound_summands-loop-part : goal.invariant-bound_summands-loop-part
invariant-bound_summands-loop-part l = l.made ≡ map (bound_summand l.values) (take l.part-index l.part-items)

abbrev pub invariant-bound_factors-loop-part : goal.invariant-bound_factors-loop-part
invariant-bound_factors-loop-part l = l.made ≡ map (bound_factor l.values) (take l.part-index l.part-items)

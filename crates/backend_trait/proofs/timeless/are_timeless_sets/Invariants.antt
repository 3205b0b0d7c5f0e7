use Rattle.std.proofs.Common.{◌≡◌, take}
use Rattle.std.specs.Prelude.{true}
use Rattle.std.specs.List.{list_all}
use Rattle.time_rewrite.specs.Timeless.{timeless_expr}
use Rattle.backend_trait.proofs.timeless.are_timeless_sets.Given as goal

abbrev pub invariant-loop-set : goal.invariant-loop-set
invariant-loop-set l = list_all (λ s. timeless_expr s.expr) (take l.set-index l.sets) ≡ true

use Rattle.std.proofs.Common.{◌≡◌, take}
use Rattle.std.specs.Prelude.{true}
use Rattle.std.specs.List.{list_all}
use Rattle.time_rewrite.specs.Timeless.{timeless_expr}
use Rattle.backend_trait.proofs.timeless.+timeless.Given as goal

abbrev pub invariant-are_timeless-loop-part : goal.invariant-are_timeless-loop-part
invariant-are_timeless-loop-part l = list_all timeless_expr (take l.part-index l.parts) ≡ true

abbrev pub invariant-are_timeless_summands-loop-part : goal.invariant-are_timeless_summands-loop-part
invariant-are_timeless_summands-loop-part l = list_all (λ s. timeless_expr s.part) (take l.part-index l.parts) ≡ true

abbrev pub invariant-are_timeless_factors-loop-part : goal.invariant-are_timeless_factors-loop-part
invariant-are_timeless_factors-loop-part l = list_all (λ f. timeless_expr f.part) (take l.part-index l.parts) ≡ true

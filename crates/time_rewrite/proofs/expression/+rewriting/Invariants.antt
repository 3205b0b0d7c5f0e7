use Rattle.std.proofs.Common.{◌≡◌, map, take}
use Rattle.time_rewrite.specs.Rewriting.{expr_at, summand_at, factor_at}
use Rattle.time_rewrite.proofs.expression.+rewriting.Given as goal

abbrev pub invariant-all_at-loop-part : goal.invariant-all_at-loop-part
invariant-all_at-loop-part l = l.made ≡ map (expr_at l.moment) (take l.part-index l.part-items)

abbrev pub invariant-sum_at-loop-part : goal.invariant-sum_at-loop-part
invariant-sum_at-loop-part l = l.made ≡ map (summand_at l.moment) (take l.part-index l.part-items)

abbrev pub invariant-product_at-loop-part : goal.invariant-product_at-loop-part
invariant-product_at-loop-part l = l.made ≡ map (factor_at l.moment) (take l.part-index l.part-items)

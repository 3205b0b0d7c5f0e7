use Rattle.std.proofs.Common.{◌≡◌, map, take}
use Rattle.std.specs.Prelude.{true}
use Rattle.std.specs.List.{list_all}
use Rattle.checked_print.specs.Ranges.{is_held_expr}
use Rattle.checked_print.specs.Spelled.{spelled, spelled_factor, spelled_summand}
use Rattle.checked_print.proofs.expression.+spelling.Given as goal

abbrev pub invariant-spelled_all-loop-part : goal.invariant-spelled_all-loop-part
invariant-spelled_all-loop-part l = (l.made ≡ map (spelled l.speller.columns.now) (take l.part-index l.part-items))
    × (list_all is_held_expr (take l.part-index l.part-items) ≡ true)

abbrev pub invariant-summands-loop-part : goal.invariant-summands-loop-part
invariant-summands-loop-part l = (l.made ≡ map (spelled_summand l.speller.columns.now) (take l.part-index l.part-items))
    × (list_all (λ s. is_held_expr s.part) (take l.part-index l.part-items) ≡ true)

abbrev pub invariant-factors-loop-part : goal.invariant-factors-loop-part
invariant-factors-loop-part l = (l.made ≡ map (spelled_factor l.speller.columns.now) (take l.part-index l.part-items))
    × (list_all (λ f. is_held_expr f.part) (take l.part-index l.part-items) ≡ true)

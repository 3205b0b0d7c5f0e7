use Rattle.std.proofs.Common.{◌≡◌, map, take}
use Rattle.std.specs.Prelude.{true}
use Rattle.std.specs.List.{list_all}
use Rattle.checked_print.specs.Ranges.{is_held_expr}
use Rattle.checked_print.specs.Statements.{spelled_set}
use Rattle.checked_print.proofs.write.set_items.Given as goal

abbrev pub invariant-loop-set : goal.invariant-loop-set
invariant-loop-set l = (l.made ≡ map (spelled_set l.speller.columns.now) (take l.set-index l.set-items))
    × (list_all (λ s. is_held_expr s.expr) (take l.set-index l.set-items) ≡ true)

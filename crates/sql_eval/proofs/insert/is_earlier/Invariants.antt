use Rattle.std.proofs.Common.{◌≡◌, drop, map}
use Rattle.std.specs.List.{list_any}
use Rattle.std.specs.Ordering.{is_eq}
use Rattle.sql_values.specs.Order.{standing}
use Rattle.sql_eval.specs.declared.effect.Change.{Change}
use Rattle.sql_eval.proofs.insert.is_earlier.Given as goal

abbrev pub invariant-loop-change : goal.invariant-loop-change
invariant-loop-change l =
    list_any (λ k. is_eq (standing k l.key)) (map (λ (c : Change). c.key) (drop l.change-index l.changes))
    ≡ list_any (λ k. is_eq (standing k l.key)) (map (λ (c : Change). c.key) l.changes)

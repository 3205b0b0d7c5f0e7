use Rattle.std.proofs.Common.{◌≡◌, map, take}
use Rattle.checked_print.specs.Statements.{spelled_key}
use Rattle.checked_print.proofs.select.order.Given as goal

abbrev pub invariant-loop-key : goal.invariant-loop-key
invariant-loop-key l = l.made ≡ map (spelled_key l.table l.speller.columns.now) (take l.key-index l.key-items)

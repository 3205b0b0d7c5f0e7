use Rattle.std.proofs.Common.{◌≡◌, take}
use Rattle.checked_sql.proofs.binding.copied_order.Given as goal

abbrev pub invariant-loop-key : goal.invariant-loop-key
invariant-loop-key l = l.made ≡ take l.key-index l.key-items

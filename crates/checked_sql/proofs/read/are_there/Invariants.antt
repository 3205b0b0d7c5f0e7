use Rattle.std.proofs.Common.{◌≡◌, take}
use Rattle.std.specs.Prelude.{true, nat_lt}
use Rattle.std.specs.List.{list_all}
use Rattle.checked_sql.proofs.read.are_there.Given as goal

abbrev pub invariant-loop-order : goal.invariant-loop-order
invariant-loop-order l = list_all (λ o. nat_lt o.column l.count) (take l.order-index l.orders) ≡ true

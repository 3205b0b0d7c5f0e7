use Rattle.std.proofs.Common.{◌≡◌, ◌<◌, ◌≤◌, ℕ, true, ◌+◌, ◌*◌}
use Rattle.pool_base.specs.Sets.{has}
use Rattle.read_balance.specs.Picking.{weight_at, weight_below}
use Rattle.read_balance.proofs.choice.first_over.Given as goal

-- what the numbers so far count together does not pass the rest, nor does it at one of them
abbrev pub invariant-loop-number : goal.invariant-loop-number
invariant-loop-number l = record {
  within : l.number ≤ 8;
  sum : l.sum ≡ weight_below l.weights l.attached.bits l.number;
  not_over : l.sum ≤ l.rest;
  before : (c : ℕ) → c < l.number → has l.attached.bits c ≡ true → weight_below l.weights l.attached.bits c + weight_at l.weights l.attached.bits c ≤ l.rest;
  small : l.sum ≤ l.number * 4294967296;
}

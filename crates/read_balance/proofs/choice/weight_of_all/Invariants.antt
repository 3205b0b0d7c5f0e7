use Rattle.std.proofs.Common.{◌≡◌, ◌≤◌, ◌*◌}
use Rattle.read_balance.specs.Picking.{weight_below}
use Rattle.read_balance.proofs.choice.weight_of_all.Given as goal

-- the total is what the numbers so far count together
abbrev pub invariant-loop-number : goal.invariant-loop-number
invariant-loop-number l = record {
  within : l.number ≤ 8;
  total : l.total ≡ weight_below l.weights l.attached.bits l.number;
  small : l.total ≤ l.number * 4294967296;
}

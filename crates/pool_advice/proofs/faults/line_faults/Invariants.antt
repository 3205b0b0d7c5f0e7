use Rattle.std.proofs.Common.{◌≤◌, ◌+◌, length}
use Rattle.pool_config.specs.Bytes.{lines}
use Rattle.pool_advice.proofs.Alone.{So}
use Rattle.pool_advice.proofs.faults.line_faults.Given as goal

abbrev pub invariant-loop-faults : goal.invariant-loop-faults
invariant-loop-faults l = record {
  so : So l.number l.text (lines l.left) l.faults;
  from_one : 1 ≤ l.number;
  numbered : l.number + length l.left ≤ length l.text + 1;
}

abbrev pub decreases-loop-faults : goal.decreases-loop-faults
decreases-loop-faults l = length l.left

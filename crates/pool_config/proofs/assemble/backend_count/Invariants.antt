use Rattle.std.proofs.Common.{◌≡◌, ◌≤◌, length, max}
use Rattle.pool_config.specs.Configuration.{count_of}
use Rattle.pool_config.proofs.assemble.backend_count.Given as goal

abbrev pub invariant-loop-left : goal.invariant-loop-left
invariant-loop-left l = record {
  all : max l.count (count_of l.left) ≡ count_of l.settings;
  one : 1 ≤ l.count;
  few : l.count ≤ 8;
}

abbrev pub decreases-loop-left : goal.decreases-loop-left
decreases-loop-left l = length l.left

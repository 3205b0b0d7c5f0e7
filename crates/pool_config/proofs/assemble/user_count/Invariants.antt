use Rattle.std.proofs.Common.{◌≡◌, ◌≤◌, length, max}
use Rattle.pool_config.specs.Configuration.{user_count_of}
use Rattle.pool_config.proofs.assemble.user_count.Given as goal

abbrev pub invariant-loop-left : goal.invariant-loop-left
invariant-loop-left l = record {
  all : max l.count (user_count_of l.left) ≡ user_count_of l.settings;
  few : l.count ≤ 16;
}

abbrev pub decreases-loop-left : goal.decreases-loop-left
decreases-loop-left l = length l.left

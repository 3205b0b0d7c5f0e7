use Rattle.std.proofs.Common.{◌≡◌, ◌≤◌, ◌+◌, ◌++◌, length}
use Rattle.std.specs.String.{string_bytes}
use Rattle.pool_config.specs.Printed.{users_text}
use Rattle.pool_config.proofs.write.write_users.Given as goal

abbrev pub invariant-loop-left : goal.invariant-loop-left
invariant-loop-left l = record {
  all : string_bytes l.text ++ users_text l.number l.left ≡ string_bytes l.fn.text ++ users_text 0 l.users;
  few : l.number + length l.left ≤ 16;
}

abbrev pub decreases-loop-left : goal.decreases-loop-left
decreases-loop-left l = length l.left

use Rattle.std.proofs.Common.{◌≡◌, ◌≤◌, ◌<◌, ◌-◌, ◌^◌, length}
use Rattle.pool_config.specs.Value.{number_after}
use Rattle.serve_base.proofs.port.read_number.Given as goal

abbrev pub invariant-loop-left : goal.invariant-loop-left
invariant-loop-left l = record {
  same : number_after l.number l.left ≡ number_after 0 l.word;
  shorter : length l.left ≤ length l.word;
  small : l.number < 10 ^ (length l.word - length l.left);
}

abbrev pub decreases-loop-left : goal.decreases-loop-left
decreases-loop-left l = length l.left

use Rattle.std.proofs.Common.{◌≡◌, ℕ, ◌<◌, ◌≤◌, length, get_or}
use Rattle.scram.proofs.mac.filled.Given as goal

abbrev pub invariant-loop-at : goal.invariant-loop-at
invariant-loop-at l = record {
  long : length l.block ≡ 64;
  front : (k : ℕ) → k < l.at → get_or l.block k 0 ≡ get_or l.bytes k 0;
  back : (k : ℕ) → l.at ≤ k → get_or l.block k 0 ≡ 0;
}

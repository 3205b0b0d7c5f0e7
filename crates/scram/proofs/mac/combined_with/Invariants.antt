use Rattle.std.proofs.Common.{◌≡◌, ℕ, ◌<◌, length, get_or, bit_xor}
use Rattle.scram.proofs.mac.combined_with.Given as goal

abbrev pub invariant-loop-at : goal.invariant-loop-at
invariant-loop-at l = record {
  long : length l.combined ≡ 64;
  each : (k : ℕ) → k < l.at → get_or l.combined k 0 ≡ bit_xor (get_or l.block k 0) l.pad;
}

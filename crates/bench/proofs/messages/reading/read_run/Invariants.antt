use Rattle.std.proofs.Common.{◌≡◌, ◌+◌, ◌≤◌, ℕ, List, length}
use Rattle.bench.specs.Runs.{IsRun}
use Rattle.bench.proofs.Runs.{Behind}
use Rattle.bench.proofs.messages.reading.read_run.Given as goal

abbrev pub invariant-run : goal.invariant-run
invariant-run l = record {
  behind : (lengths : List ℕ) → IsRun lengths l.bytes → Behind l.messages l.total l.rest lengths;
  messages : l.messages + length l.rest ≤ length l.bytes;
  total : l.total + length l.rest ≡ length l.bytes;
}

abbrev pub decreases-run : goal.decreases-run
decreases-run l = length l.rest

use Rattle.std.proofs.Common.{◌≤◌, ◌*◌}
use Rattle.bench.specs.Runs.{Counts}
use Rattle.bench.proofs.messages.reading.read_times.Given as goal

abbrev pub invariant-loop-done : goal.invariant-loop-done
invariant-loop-done l = record {
  counts : Counts l.done l.bytes (record { messages = l.messages; bytes = l.total });
  messages : l.messages ≤ l.done * 2147483648;
  total : l.total ≤ l.done * 2147483648;
}

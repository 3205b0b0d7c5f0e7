use Rattle.std.proofs.Common.{◌≡◌, ◌*◌, length}
use Rattle.bench.proofs.messages.samples.put_rounds.Given as goal

abbrev pub invariant-loop-round : goal.invariant-loop-round
invariant-loop-round l = length l.bytes ≡ l.round * 256

use Rattle.std.proofs.Common.{◌≡◌, ◌<◌, ◌*◌, length}
use Rattle.pg_messages.specs.Server.{spelling}
use Rattle.bench.proofs.messages.writing.write_times.Given as goal

abbrev pub invariant-loop-done : goal.invariant-loop-done
invariant-loop-done l = record {
  total : l.total ≡ l.done * length (spelling l.message);
  last : 0 < l.done → l.onto ≡ spelling l.message;
}

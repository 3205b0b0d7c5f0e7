use Rattle.std.proofs.Common.{◌≤◌, length}
use Rattle.pool_base.proofs.Sinking.{Sends}
use Rattle.pool_base.proofs.write.write_all.Given as goal

abbrev pub invariant-loop-rest : goal.invariant-loop-rest
invariant-loop-rest g l = record {
  sends : Sends (g.O.Sink.taken l.fn.out) (g.O.Sink.taken l.out) l.bytes l.rest;
  later : g.O.Sink.fault_count l.fn.out ≤ g.O.Sink.fault_count l.out;
}

abbrev pub decreases-loop-rest : goal.decreases-loop-rest
decreases-loop-rest g l = length l.rest

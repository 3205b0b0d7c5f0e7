use Rattle.std.proofs.Common.{◌≤◌, ◌-◌, length}
use Rattle.tcp_link.proofs.outbox.Outbox.empty.Given as goal

abbrev pub invariant-rest : goal.invariant-rest
invariant-rest g l = g.W.Wire.fault_count l.fn.wire ≤ g.W.Wire.fault_count l.wire

abbrev pub decreases-rest : goal.decreases-rest
decreases-rest g l = length l.self.bytes - l.self.from

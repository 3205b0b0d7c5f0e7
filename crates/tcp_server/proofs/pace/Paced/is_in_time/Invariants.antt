use Rattle.std.proofs.Common.{◌≡◌}
use Rattle.tcp_server.proofs.pace.Paced.is_in_time.Given as goal

abbrev pub invariant-loop : goal.invariant-loop
invariant-loop g l = l.self.passes ≡ l.fn.self.passes

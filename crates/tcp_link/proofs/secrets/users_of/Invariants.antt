use Rattle.std.proofs.Common.{length}
use Rattle.tcp_link.proofs.Named.{So}
use Rattle.tcp_link.proofs.secrets.users_of.Given as goal

abbrev pub invariant-loop-left : goal.invariant-loop-left
invariant-loop-left l = So l.said l.left l.users

abbrev pub decreases-loop-left : goal.decreases-loop-left
decreases-loop-left l = length l.left

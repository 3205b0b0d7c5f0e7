use Rattle.pool_server.specs.Seats.{AreTakenBetween}
use Rattle.pool_server.proofs.seats.Seats.first.Given as goal

abbrev pub invariant-loop-number : goal.invariant-loop-number
invariant-loop-number l = AreTakenBetween l.behind l.number l.self.taken

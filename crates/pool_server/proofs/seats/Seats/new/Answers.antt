use Rattle.pool_server.proofs.SeatLaws.{none_taken}
use Rattle.pool_server.proofs.seats.Seats.new.Goals as goal

pub returns-clause-free : goal.returns-clause-free
returns-clause-free c = λ n low high. none_taken 65 n

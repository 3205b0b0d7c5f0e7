use Rattle.std.proofs.Common.{◌≡◌, ℕ, ◌<◌, ◌≤◌, false}
use Rattle.pool_server.specs.Seats.{is_taken}
use Rattle.pool_server.proofs.seats.Seats.are_free.Given as goal

abbrev pub invariant-loop-number : goal.invariant-loop-number
invariant-loop-number l = (n : ℕ) → 1 ≤ n → n < l.number → is_taken l.self.taken n ≡ false

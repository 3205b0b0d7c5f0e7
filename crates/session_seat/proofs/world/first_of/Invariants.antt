use Rattle.std.proofs.Common.{◌≡◌, ◌<◌, ℕ, ◌&&◌, nat_lt}
use Rattle.pool_base.specs.Sets.{has}
use Rattle.session_seat.proofs.world.first_of.Given as goal

abbrev pub invariant-loop-number : goal.invariant-loop-number
invariant-loop-number l = (k : ℕ) → k < 8 → has l.set.bits k ≡ (nat_lt k l.number && nat_lt k l.count)

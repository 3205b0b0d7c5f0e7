use Rattle.std.proofs.Common.{◌≡◌, ℕ, ◌<◌, false}
use Rattle.pool_base.specs.Sets.{has}
use Rattle.pool_base.proofs.backend_set.BackendSet.lowest.Given as goal

abbrev pub invariant-loop-number : goal.invariant-loop-number
invariant-loop-number l = (c : ℕ) → c < l.number → has l.self.bits c ≡ false

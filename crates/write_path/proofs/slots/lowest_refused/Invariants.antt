use Rattle.std.proofs.Common.{◌≡◌, ◌<◌, ℕ, false}
use Rattle.pool_base.specs.Sets.{has}
use Rattle.write_path.proofs.slots.lowest_refused.Given as goal

abbrev pub invariant-loop-at : goal.invariant-loop-at
invariant-loop-at g l = (k : ℕ) → k < l.at → has l.attached.bits k ≡ false

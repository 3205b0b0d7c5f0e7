use Rattle.std.proofs.Common.{◌≡◌, ◌<◌, ℕ, ◌&&◌, nat_lt}
use Rattle.pool_base.specs.Sets.{has}
use Rattle.write_path.specs.Slots.{seen_by}
use Rattle.write_path.specs.Kept.{differs_at}
use Rattle.write_path.proofs.slots.differing.Given as goal

abbrev pub invariant-loop-at : goal.invariant-loop-at
invariant-loop-at g l = (k : ℕ) → k < 8 → has l.set.bits k ≡ (nat_lt k l.at && differs_at g.A.PartialEq.eq (seen_by l.attached.bits l.slots) l.holder.number k)

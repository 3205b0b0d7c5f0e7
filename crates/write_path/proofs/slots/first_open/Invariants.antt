use Rattle.std.proofs.Common.{◌≡◌, ◌<◌, ℕ, false}
use Rattle.write_path.specs.Slots.{is_open}
use Rattle.write_path.proofs.slots.first_open.Given as goal

abbrev pub invariant-loop-at : goal.invariant-loop-at
invariant-loop-at g l = (k : ℕ) → k < l.at → is_open l.attached.bits l.slots k ≡ false

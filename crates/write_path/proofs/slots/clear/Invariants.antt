use Rattle.std.proofs.Common.{◌≡◌, ℕ, ◌<◌, get_or, None}
use Rattle.write_path.proofs.slots.clear.Given as goal

abbrev pub invariant-loop-slot : goal.invariant-loop-slot
invariant-loop-slot g l = (k : ℕ) → k < l.slot-index → get_or l.slots k None ≡ None

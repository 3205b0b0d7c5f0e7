use Rattle.std.proofs.Common.{◌≡◌, ℕ, length, get_or, None}
use Rattle.write_path.proofs.chain.Chain.new.Given as goal

abbrev pub invariant-loop : goal.invariant-loop
invariant-loop g l = record {
  len : length l.slots.items ≡ l.counter;
  none : (b : ℕ) → get_or l.slots.items b None ≡ None;
}

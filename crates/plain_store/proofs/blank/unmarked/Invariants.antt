use Rattle.std.proofs.Common.{◌≡◌, length}
use Rattle.plain_store.proofs.blank.unmarked.Given as goal

abbrev pub invariant-loop : goal.invariant-loop
invariant-loop l = length l.all.items ≡ l.counter

use Rattle.std.proofs.Common.{◌≡◌, ℕ, ◌<◌, true, false, get_or}
use Rattle.plain_store.proofs.waiting.first_open.Given as goal

abbrev pub invariant-loop-s : goal.invariant-loop-s
invariant-loop-s l = (o : ℕ) → o < l.s → get_or l.found o false ≡ true → get_or l.followed o false ≡ true

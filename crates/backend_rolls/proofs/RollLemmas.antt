-- A roll of the same entry for all.
use Rattle.std.proofs.Common.{◌≡◌, ℕ, get_or, replicate, zero, suc, refl}
use Rattle.backend_rolls.specs.declared.known.Known.{Known}
use Rattle.backend_rolls.specs.Known.{nothing_known}

pub entries_same : (k : Known) (n s : ℕ) → k ≡ nothing_known → get_or (replicate n k) s nothing_known ≡ nothing_known
entries_same k zero s is = refl
entries_same k (suc n) zero is = is
entries_same k (suc n) (suc s) is = entries_same k n s is

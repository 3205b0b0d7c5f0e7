-- The sessions by number.
use Rattle.std.specs.Prelude.{ℕ, zero, suc, min, ◌-◌, ◌≤◌, Bool, false, ◌||◌}
use Rattle.std.proofs.Common.{arith}
use Rattle.pool_base.specs.declared.session_id.SessionId.{SessionId}

pub from_one : (n : ℕ) → 1 ≤ suc (min n 63)
from_one n = omega arith

pub up_to_64 : (n : ℕ) → suc (min n 63) ≤ 64
up_to_64 n = omega arith

-- the session of a number, 1 to 64; a number that no session has is never asked
abbrev pub session_of : ℕ → SessionId
session_of n = record { number = suc (min (n - 1) 63); from_one = from_one (n - 1); up_to_64 = up_to_64 (n - 1) }

-- some number below a bound passes
abbrev pub some_below : (ℕ → Bool) → ℕ → Bool
some_below p zero = false
some_below p (suc n) = p n || some_below p n

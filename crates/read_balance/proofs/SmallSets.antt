-- Sets of the backends 0, 1 and 2.
use Rattle.std.proofs.Common.{◌≡◌, ◌<◌, ℕ, Bool, true, false, nat_lt, if◌then◌else◌, refl, arith}
use Rattle.std.proofs.lemmas.Bool.Decides.{nat_tests}
use Rattle.pool_base.specs.Sets.{has}
use Rattle.pool_base.proofs.Finite.{at_each}

-- a set below 8 has numbers below 3 alone
abbrev small : ℕ → ℕ → Bool
small s b = if nat_lt s 8 then (if has s b then nat_lt b 3 else true) else true

open_small : (t h l : Bool) → t ≡ true → h ≡ true → (if t then (if h then l else true) else true) ≡ true → l ≡ true
open_small true true l p q e = e
open_small true false l p q e = absurd (cc)
open_small false h l p q e = absurd (cc)

pub members_small : (s b : ℕ) → s < 8 → b < 8 → has s b ≡ true → b < 3
members_small s b few hb is =
    let t : small s b ≡ true = at_each small refl s b (omega arith) hb in
    let test : nat_lt s 8 ≡ true = grind (arith, nat_tests) in
    let found : nat_lt b 3 ≡ true = open_small (nat_lt s 8) (has s b) (nat_lt b 3) test is t in
    grind (arith, nat_tests)

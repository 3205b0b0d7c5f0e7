-- How often passwords are answered to one address.
use Rattle.std.specs.Prelude.{◌≡◌, ◌<◌, ◌≤◌, ◌-◌, ◌==◌, ◌&&◌, ℕ, suc, Bool, List, [], ◌∷◌, ◌++◌, length, drop, nat_lt, if◌then◌else◌}
use Rattle.login.specs.declared.tries.Try.{Try}
use Rattle.login.specs.declared.tries.Tries.{Tries}
use Rattle.login.specs.declared.tries.Claim.{Claim}
use Rattle.login.specs.declared.tries.Claim.TheVariants.{Passes, Waits}

-- those that are not so long ago
abbrev pub within : ℕ → ℕ → List Try → List Try
within span now [] = []
within span now (t ∷ rest) = if nat_lt (now - t.at) span then t ∷ within span now rest else within span now rest

-- the last ones
abbrev pub newest : ℕ → List Try → List Try
newest most tries = drop (length tries - most) tries

abbrev pub recent : ℕ → ℕ → ℕ → List Try → List Try
recent span most now tries = newest most (within span now tries)

-- how many are of the address
abbrev pub count_of : ℕ → List Try → ℕ
count_of address [] = 0
count_of address (t ∷ rest) = if t.address == address then suc (count_of address rest) else count_of address rest

-- all but the first of the address at that moment
abbrev pub without : ℕ → ℕ → List Try → List Try
without address at [] = []
without address at (t ∷ rest) = if t.address == address && t.at == at then rest else t ∷ without address at rest

-- behind others
abbrev pub added : List Try → ℕ → ℕ → List Try
added tries address at = tries ++ record { address = address; at = at } ∷ []

abbrev pub noted : Bool → List Try → ℕ → ℕ → List Try
noted tells tries address at = if tells then added tries address at else tries

-- an answer may be told where less than three were told there within a second; else an operator is told of it, once a minute
abbrev pub IsClaim : ℕ → ℕ → Tries → Claim → Tries → Type 0
IsClaim address now old Passes new =
    (count_of address (recent 1000 1023 now old.answered) < 3)
    × (new.answered ≡ added (recent 1000 1023 now old.answered) address now) × (new.told ≡ old.told)
IsClaim address now old (Waits tells) new =
    (3 ≤ count_of address (recent 1000 1023 now old.answered)) × (new.answered ≡ recent 1000 1023 now old.answered)
    × (tells ≡ (count_of address (recent 60000 63 now old.told) == 0)) × (new.told ≡ noted tells (recent 60000 63 now old.told) address now)

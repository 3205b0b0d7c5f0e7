-- Which calls are to fail.
use Rattle.std.specs.Prelude.{◌≡◌, ℕ, ◌+◌, ◌==◌, Bool, List, min}
use Rattle.std.specs.List.{list_any}

-- the number of the next call, which stands still at the largest number
abbrev pub next_call : ℕ → ℕ
next_call calls = min (calls + 1) 18446744073709551615

-- after so many calls, the next one is among those that are to fail
abbrev pub is_planned : List ℕ → ℕ → Bool
is_planned fails calls = list_any (λ k. k == next_call calls) fails

-- a plan as it is made: these calls are to fail, and nothing is counted yet
abbrev pub IsPlan : List ℕ → ℕ → ℕ → List ℕ → Type 0
IsPlan fails calls faults wanted = (fails ≡ wanted) × (calls ≡ 0) × (faults ≡ 0)

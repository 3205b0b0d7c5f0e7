-- Which seats are taken, by their numbers from 1 on.
use Rattle.std.specs.Prelude.{◌≡◌, ◌⊎◌, ℕ, suc, ◌<◌, ◌≤◌, Bool, true, false, ◌==◌, if◌then◌else◌, List, get_or}

-- seat n is taken
abbrev pub is_taken : List Bool → ℕ → Bool
is_taken taken n = get_or taken n false

-- a seat that is there, and not taken
abbrev pub IsFree : ℕ → List Bool → ℕ → Type 0
IsFree count taken n = (1 ≤ n) × (n ≤ count) × (is_taken taken n ≡ false)

-- each seat is taken, and: each seat between two is
abbrev pub AreTaken : ℕ → List Bool → Type 0
AreTaken count taken = (n : ℕ) → 1 ≤ n → n ≤ count → is_taken taken n ≡ true

abbrev pub AreTakenBetween : ℕ → ℕ → List Bool → Type 0
AreTakenBetween behind end taken = (n : ℕ) → behind < n → n < end → is_taken taken n ≡ true

-- whoever goes round from a seat, behind the last one to the first, comes to seat n before any other that is free
abbrev pub IsNextFree : ℕ → ℕ → List Bool → ℕ → Type 0
IsNextFree count from taken n =
    ((from < n) × AreTakenBetween from n taken) ⊎ ((n ≤ from) × (AreTakenBetween from (suc count) taken × AreTakenBetween 0 n taken))

-- no seat is taken
abbrev pub AreFree : ℕ → List Bool → Type 0
AreFree count taken = (n : ℕ) → 1 ≤ n → n ≤ count → is_taken taken n ≡ false

-- the set has what another one has, but seat n as it says
abbrev pub Differs : List Bool → List Bool → ℕ → Bool → Type 0
Differs old new n to = (m : ℕ) → is_taken new m ≡ (if m == n then to else is_taken old m)

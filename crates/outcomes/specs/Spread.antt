-- Where a key stands in a list of entries.
use Rattle.std.specs.Prelude.{◌≡◌, ℕ, zero, suc, Bool, true, false, List, [], ◌∷◌}
use Rattle.std.specs.List.{AllByRecursion}
use Rattle.std.specs.declared.cmp.Ordering.{Ordering}
use Rattle.std.specs.declared.cmp.Ordering.TheVariants.{Less, Equal, Greater}

-- the entry of that number has the key
abbrev pub StandsAt : {K X : Type 0} → (K → K → Ordering) → K → List (K × X) → ℕ → Type 0
StandsAt order key [] n = ⊥
StandsAt order key (e ∷ es) zero = order e.0 key ≡ Equal
StandsAt order key (e ∷ es) (suc n) = StandsAt order key es n

-- the entries before that number have lesser keys, and those from it on greater ones
abbrev pub StandsBetween : {K X : Type 0} → (K → K → Ordering) → K → List (K × X) → ℕ → Type 0
StandsBetween order key es zero = AllByRecursion (λ e. order e.0 key ≡ Greater) es
StandsBetween order key [] (suc n) = ⊥
StandsBetween order key (e ∷ es) (suc n) = (order e.0 key ≡ Less) × StandsBetween order key es n

-- the entries before that number pass a test, and those from it on fail it
abbrev pub IsParted : {A : Type 0} → (A → Bool) → List A → ℕ → Type 0
IsParted test es zero = AllByRecursion (λ e. test e ≡ false) es
IsParted test [] (suc n) = ⊥
IsParted test (e ∷ es) (suc n) = (test e ≡ true) × IsParted test es n

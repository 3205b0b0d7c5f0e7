-- The next numbers of serial columns, by the numbers of their tables.
use Rattle.std.specs.Prelude.{ℕ, ℤ, List, Option, None, slice_index_or}
use Rattle.std.specs.Coded.{Π_prop}
use Rattle.std.proofs.Props.{props}
use Rattle.backend_trait.specs.Effect.{IsPositive}

abbrev pub next_in : List (Option ℤ) → ℕ → Option ℤ
next_in all table = slice_index_or all table None

-- they begin with 1
abbrev pub ArePositive : List (Option ℤ) → Type 0
ArePositive all = (table : ℕ) → IsPositive (next_in all table)

IsPositive-prop : (next : Option ℤ) → IsProp (IsPositive next)
IsPositive-prop next = Prim.hlevel props

pub ArePositive-prop : (all : List (Option ℤ)) → IsProp (ArePositive all)
ArePositive-prop all = Π_prop (λ table. IsPositive-prop (next_in all table))

-- The first row behind a key, by what stands at each place.
use Rattle.std.specs.Prelude.{◌≡◌, ℕ, Bool, true, Option, Some, None}
use Rattle.std.specs.Ordering.{is_gt}
use Rattle.std.specs.FinMap as fin
use Rattle.std.specs.declared.cmp.Ordering.TheVariants.{Less}
use Rattle.pg_values.specs.declared.value.Value.{Value}
use Rattle.sql_eval.specs.declared.row.Row.{Row}
use Rattle.backend_trait.specs.Keys.{key_order, place}
use Rattle.backend_trait.specs.Rows.{Rows}

-- whether a key stands behind another; each does where there is none
abbrev pub is_after : Option Value → Value → Bool
is_after None k = true
is_after (Some key) k = is_gt (key_order k key)

-- a table has no row behind a key, or of all
abbrev pub NoneBehind : Rows → ℕ → Option Value → Type 0
NoneBehind rows table after = (k : Value) → is_after after k ≡ true → fin.get rows (place table k) ≡ None

-- the first of them
pub record IsFirst (rows : Rows) (table : ℕ) (after : Option Value) (key : Value) (row : Row) : Type 0 where
  pub there : fin.get rows (place table key) ≡ Some row
  pub behind : is_after after key ≡ true
  pub first : (k : Value) → is_after after k ≡ true → key_order k key ≡ Less → fin.get rows (place table k) ≡ None

abbrev pub IsFirstRow : Rows → ℕ → Option Value → Row → Type 0
IsFirstRow rows table after row = (key : Value) × IsFirst rows table after key row

-- the first of them, or that there is none
abbrev pub IsNext : Rows → ℕ → Option Value → Option Row → Type 0
IsNext rows table after None = NoneBehind rows table after
IsNext rows table after (Some row) = IsFirstRow rows table after row

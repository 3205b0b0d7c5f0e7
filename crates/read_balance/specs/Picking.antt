-- Which backend answers a read: weights count for the attached backends alone.
use Rattle.std.specs.Prelude.{◌≡◌, ◌<◌, ◌≤◌, ◌+◌, ℕ, zero, suc, List, true, get_or, if◌then◌else◌}
use Rattle.pool_base.specs.Sets.{has}

-- what a backend counts: its weight, where it is attached
abbrev pub weight_at : List ℕ → ℕ → ℕ → ℕ
weight_at weights attached b = if has attached b then get_or weights b 0 else 0

-- what the backends below a number count together
abbrev pub weight_below : List ℕ → ℕ → ℕ → ℕ
weight_below weights attached zero = 0
weight_below weights attached (suc b) = weight_below weights attached b + weight_at weights attached b

-- what all backends count together
abbrev pub weight_of_all : List ℕ → ℕ → ℕ
weight_of_all weights attached = weight_below weights attached 8

-- the first attached backend at which the weights up to and with it are greater than a number
pub record IsFirstOver (weights : List ℕ) (attached rest b : ℕ) : Type 0 where
  pub attached_is : has attached b ≡ true
  pub over : rest < weight_below weights attached b + weight_at weights attached b
  pub first : (c : ℕ) → c < b → has attached c ≡ true → weight_below weights attached c + weight_at weights attached c ≤ rest

-- The names that refusals tell.
use Rattle.std.specs.Prelude.{◌≤◌, ℕ, List, length}
use Rattle.pg_values.specs.Range.{HasNoZero}

-- at most 63 bytes, and none of them is 0
abbrev pub IsTold : List ℕ → Type 0
IsTold name = (length name ≤ 63) × HasNoZero name

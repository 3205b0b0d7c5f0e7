-- A count of faults that rose.
use Rattle.std.specs.Prelude.{ℕ, Bool, ◌||◌, nat_lt, nat_le}

-- it rose, or stands where it can rise no more
abbrev pub has_risen : ℕ → ℕ → Bool
has_risen before after = nat_lt before after || nat_le 18446744073709551615 after

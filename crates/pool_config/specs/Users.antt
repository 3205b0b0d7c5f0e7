-- The users who show a password, by their numbers 0 to 15.
use Rattle.std.specs.Prelude.{◌+◌, ◌-◌, ◌==◌, ◌&&◌, ℕ, List, [], ◌∷◌, length, slice_index, slice_get, nat_lt}
use Rattle.std.specs.Prelude.{Option, None, if◌then◌else◌}
use Rattle.std.specs.Char.{is_ascii_digit}
use lib.Dec.{lit<}
use Rattle.pool_config.specs.declared.user.UserNumber.{UserNumber}

abbrev pub all_users : List UserNumber
all_users = record { number = 0; below_16 = lit< tt } ∷ record { number = 1; below_16 = lit< tt }
    ∷ record { number = 2; below_16 = lit< tt } ∷ record { number = 3; below_16 = lit< tt }
    ∷ record { number = 4; below_16 = lit< tt } ∷ record { number = 5; below_16 = lit< tt }
    ∷ record { number = 6; below_16 = lit< tt } ∷ record { number = 7; below_16 = lit< tt }
    ∷ record { number = 8; below_16 = lit< tt } ∷ record { number = 9; below_16 = lit< tt }
    ∷ record { number = 10; below_16 = lit< tt } ∷ record { number = 11; below_16 = lit< tt }
    ∷ record { number = 12; below_16 = lit< tt } ∷ record { number = 13; below_16 = lit< tt }
    ∷ record { number = 14; below_16 = lit< tt } ∷ record { number = 15; below_16 = lit< tt } ∷ []

-- how a number is written: one digit, or 1 and another one
abbrev pub digits_of : ℕ → List ℕ
digits_of n = if nat_lt n 10 then (48 + n) ∷ [] else 49 ∷ (38 + n) ∷ []

-- the user whose number is one digit
abbrev pub one_digit : ℕ → Option UserNumber
one_digit digit = if is_ascii_digit digit then slice_get all_users (digit - 48) else None

-- the user whose number is 1 and another digit
abbrev pub second_digit : ℕ → Option UserNumber
second_digit digit = if is_ascii_digit digit then slice_get all_users (digit - 48 + 10) else None

-- the user whose number is written so
abbrev pub user_at : List ℕ → Option UserNumber
user_at digits = if length digits == 1 then one_digit (slice_index digits 0)
    else (if length digits == 2 && slice_index digits 0 == 49 then second_digit (slice_index digits 1) else None)

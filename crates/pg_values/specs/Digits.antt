-- Decimal digits: the number that they stand for, and the digits of a number.
use Rattle.std.specs.Prelude.{ℕ, zero, suc, ◌+◌, ◌-◌, ◌*◌, ◌/◌, ◌%◌, ◌^◌, ◌==◌, if◌then◌else◌, Bool, List, [], ◌∷◌, length}
use Rattle.std.specs.Char.{is_ascii_digit}
use Rattle.std.specs.List.{list_all}

-- decimal digits and nothing else
abbrev pub are_digits : List ℕ → Bool
are_digits text = list_all is_ascii_digit text

-- the number that decimal digits stand for
abbrev pub number_of : List ℕ → ℕ
number_of [] = 0
number_of (c ∷ cs) = (c - 48) * 10 ^ length cs + number_of cs

-- the last so many decimal digits of a number, leading zeros too
abbrev pub fixed : ℕ → ℕ → List ℕ
fixed zero n = []
fixed (suc k) n = (48 + n / 10 ^ k) ∷ fixed k (n % 10 ^ k)

-- the same, up to the last digit that is not 0
abbrev pub shortest : ℕ → ℕ → List ℕ
shortest zero n = []
shortest (suc k) n = if n == 0 then [] else (48 + n / 10 ^ k) ∷ shortest k (n % 10 ^ k)

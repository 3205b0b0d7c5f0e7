-- The words of a script: numbers, strings and hexadecimal digits.
use Rattle.std.specs.Prelude.{◌≡◌, ◌≤◌, ◌<◌, ℕ, ◌+◌, ◌-◌, ◌*◌, ◌++◌, List, [], ◌∷◌, length, flat_map, Bool, true, false, ◌&&◌, ◌||◌, ◌==◌, not, nat_le, if◌then◌else◌}
use Rattle.std.specs.Str.{IsUtf8}
use Rattle.std.specs.List.{AllByRecursion}

-- 0 to 9
abbrev pub is_digit : ℕ → Bool
is_digit b = nat_le 48 b && nat_le b 57

-- the number of these digits, behind a number
abbrev pub number_from : ℕ → List ℕ → ℕ
number_from n [] = n
number_from n (d ∷ ds) = number_from (n * 10 + (d - 48)) ds

-- decimal digits of a number; zeros may stand in front
pub record IsNumber (digits : List ℕ) (n : ℕ) : Type 0 where
  pub some : 0 < length digits
  pub digits_are : AllByRecursion (λ d. is_digit d ≡ true) digits
  pub number : number_from 0 digits ≡ n

-- how a byte of a string is written
abbrev pub escaped : ℕ → List ℕ
escaped b = if b == 34 then 92 ∷ 34 ∷ [] else if b == 92 then 92 ∷ 92 ∷ [] else if b == 10 then 92 ∷ 110 ∷ [] else b ∷ []

-- a string in double quotes
abbrev pub quoted : List ℕ → List ℕ
quoted text = 34 ∷ flat_map escaped text ++ 34 ∷ []

-- no control byte but LF
abbrev pub is_shown : ℕ → Bool
is_shown b = b == 10 || (nat_le 32 b && not (b == 127))

-- what a string may hold
pub record IsString (text : List ℕ) : Type 0 where
  pub utf8 : IsUtf8 text
  pub shown : AllByRecursion (λ b. is_shown b ≡ true) text

-- what a hexadecimal digit counts, in either case; 16 where it is none
abbrev pub hex_digit : ℕ → ℕ
hex_digit b =
    if is_digit b then b - 48
    else if nat_le 97 b && nat_le b 102 then b - 87
    else if nat_le 65 b && nat_le b 70 then b - 55
    else 16

-- two digits for each byte
abbrev pub AreHexOf : List ℕ → List ℕ → Type 0
AreHexOf [] [] = Unit {0}
AreHexOf [] (b ∷ bytes) = ⊥
AreHexOf (h ∷ []) bytes = ⊥
AreHexOf (h ∷ l ∷ digits) [] = ⊥
AreHexOf (h ∷ l ∷ digits) (b ∷ bytes) = (hex_digit h < 16) × (hex_digit l < 16) × (b ≡ hex_digit h * 16 + hex_digit l) × AreHexOf digits bytes

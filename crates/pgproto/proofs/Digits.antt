-- Reading the digits of a number one after the other, as a loop does.
use Rattle.std.proofs.Common.{◌≡◌, ◌<◌, ◌≤◌, ◌+◌, ◌-◌, ◌*◌, ℕ, suc, List, [], ◌∷◌, length, min, Bool, true, false, if◌then◌else◌, refl, sym, ◌∙◌, arith}
use Rattle.pgproto.specs.Words.{is_digit}
use Rattle.pgproto.specs.Reading.{digits_at, has_digit}

-- behind some number, of which the least with the bound is kept, the rest reads as all bytes do
pub record Going (kept : ℕ) (rest bytes : List ℕ) : Type 0 where
  pub number : ℕ
  pub kept_is : kept ≡ min 4294967296 number
  pub read : digits_at number rest ≡ digits_at 0 bytes

shorter_if : (t : Bool) (read : ℕ × List ℕ) (n b : ℕ) (bytes : List ℕ) → length read.1 ≤ length bytes → length (if t then read else (n, b ∷ bytes)).1 ≤ suc (length bytes)
shorter_if true read n b bytes h = omega arith
shorter_if false read n b bytes h = omega arith

pub digits_shorter : (n : ℕ) (bytes : List ℕ) → length (digits_at n bytes).1 ≤ length bytes
digits_shorter n [] = omega arith
digits_shorter n (b ∷ bytes) = shorter_if (is_digit b) (digits_at (n * 10 + (b - 48)) bytes) n b bytes (digits_shorter (n * 10 + (b - 48)) bytes)

-- behind a digit in front fewer bytes are left
pub digits_took : (bytes : List ℕ) → has_digit bytes ≡ true → length (digits_at 0 bytes).1 < length bytes
digits_took [] h = absurd (cc)
digits_took (b ∷ bytes) h = go (is_digit b) h (digits_at (0 * 10 + (b - 48)) bytes) (digits_shorter (0 * 10 + (b - 48)) bytes)
  where
    go : (t : Bool) → t ≡ true → (read : ℕ × List ℕ) → length read.1 ≤ length bytes → length (if t then read else (0, b ∷ bytes)).1 < suc (length bytes)
    go true e read h = omega arith
    go false e read h = absurd (cc)

-- Reading from left to right, as the private readers do it. What they find is what the grammar says.
use Rattle.std.specs.Prelude.{ℕ, ◌==◌, nat_lt, if◌then◌else◌, Bool, true, false, List, [], ◌∷◌, length, take, drop, Option, Some, None}
use Rattle.std.specs.Char.{is_ascii_digit}
use Rattle.pg_values.specs.Digits.{are_digits, number_of}
use Rattle.pg_values.specs.declared.written.Sign.{Sign}
use Rattle.pg_values.specs.declared.written.Sign.TheVariants.{East, West}
use Rattle.pg_values.specs.declared.written.Zone.{Zone}
use Rattle.pg_values.specs.declared.written.Zone.TheVariants as zone
use Rattle.pg_values.specs.declared.written.Fraction.{Fraction}
use Rattle.pg_values.specs.declared.written.Seconds.{Seconds}
use Rattle.pg_values.specs.declared.written.Separator.{Separator}
use Rattle.pg_values.specs.declared.written.Separator.TheVariants.{Space, LetterT}
use Rattle.pg_values.specs.declared.written.Clock.{Clock}
use Rattle.pg_values.specs.declared.written.Written.{Written}

infixl 10 ◌>>=◌
abbrev pub ◌>>=◌ : {A B : Type 0} → Option A → (A → Option B) → Option B
(Some x) >>= f = f x
None >>= f = None

-- the first so many bytes, a number where they are digits, and the bytes after them
unfoldable pub fixed_at : ℕ → List ℕ → Option (ℕ × List ℕ)
fixed_at width text =
    if nat_lt (length text) width then None
    else (if are_digits (take width text) then Some (number_of (take width text), drop width text) else None)

-- the bytes after this one
abbrev pub mark_at : ℕ → List ℕ → Option (List ℕ)
mark_at mark [] = None
mark_at mark (b ∷ rest) = if b == mark then Some rest else None

-- the digits at the front, and the bytes after them
abbrev pub digits_front : List ℕ → List ℕ
digits_front [] = []
digits_front (b ∷ rest) = if is_ascii_digit b then b ∷ digits_front rest else []

abbrev pub digits_rest : List ℕ → List ℕ
digits_rest [] = []
digits_rest (b ∷ rest) = if is_ascii_digit b then digits_rest rest else b ∷ rest

-- the end of the text
abbrev pub ended : {A : Type 0} → A → List ℕ → Option A
ended x [] = Some x
ended x (b ∷ rest) = None

unfoldable pub whole_minutes : List ℕ → Option (Option ℕ)
whole_minutes text = do
  minutes ← fixed_at 2 text
  ended (Some minutes.0) minutes.1

-- the minutes of an offset, if they are there, up to the end of the text
unfoldable pub minutes_at : List ℕ → Option (Option ℕ)
minutes_at [] = Some None
minutes_at (b ∷ rest) = if b == 58 then whole_minutes rest else None

-- an offset and a zone, up to the end of the text
unfoldable pub offset_at : Sign → List ℕ → Option Zone
offset_at sign text = do
  hours ← fixed_at 2 text
  minutes ← minutes_at hours.1
  Some (zone.Offset (record { sign = sign; hours = hours.0; minutes = minutes }))

unfoldable pub zone_at : List ℕ → Option Zone
zone_at [] = Some zone.Unwritten
zone_at (b ∷ rest) =
    if b == 90 then ended zone.Zulu rest
    else (if b == 43 then offset_at East rest else (if b == 45 then offset_at West rest else None))

-- the digits at the front, and the bytes after them
unfoldable pub fraction_at : List ℕ → Option (Option Fraction × List ℕ)
fraction_at text =
    if length (digits_front text) == 0 then None
    else (if nat_lt 6 (length (digits_front text)) then None
    else Some (Some (record { digits = length (digits_front text); number = number_of (digits_front text) }), digits_rest text))

-- a point and digits, if there is a point, and the bytes after them
unfoldable pub point_at : List ℕ → Option (Option Fraction × List ℕ)
point_at [] = Some (None, [])
point_at (b ∷ rest) = if b == 46 then fraction_at rest else Some (None, b ∷ rest)

-- seconds with their fraction, and the bytes after them
unfoldable pub second_at : List ℕ → Option (Option Seconds × List ℕ)
second_at text = do
  second ← fixed_at 2 text
  fraction ← point_at second.1
  Some (Some (record { second = second.0; fraction = fraction.0 }), fraction.1)

-- a colon and seconds, if there is a colon, and the bytes after them
unfoldable pub seconds_at : List ℕ → Option (Option Seconds × List ℕ)
seconds_at [] = Some (None, [])
seconds_at (b ∷ rest) = if b == 58 then second_at rest else Some (None, b ∷ rest)

-- the time of day and the zone, up to the end of the text
unfoldable pub clock_behind : Separator → List ℕ → Option (Option Clock)
clock_behind separator text = do
  hour ← fixed_at 2 text
  rest ← mark_at 58 hour.1
  minute ← fixed_at 2 rest
  seconds ← seconds_at minute.1
  zone ← zone_at seconds.1
  Some (Some (record { separator = separator; hour = hour.0; minute = minute.0; seconds = seconds.0; zone = zone }))

unfoldable pub clock_at : List ℕ → Option (Option Clock)
clock_at [] = Some None
clock_at (b ∷ rest) =
    if b == 32 then clock_behind Space rest else (if b == 84 then clock_behind LetterT rest else None)

-- a moment, up to the end of the text
unfoldable pub written_at : List ℕ → Option Written
written_at text = do
  year ← fixed_at 4 text
  rest ← mark_at 45 year.1
  month ← fixed_at 2 rest
  rest ← mark_at 45 month.1
  day ← fixed_at 2 rest
  clock ← clock_at day.1
  Some (record { year = year.0; month = month.0; day = day.0; clock = clock })

-- the bytes after the spaces at the front
abbrev pub after_spaces : List ℕ → List ℕ
after_spaces [] = []
after_spaces (b ∷ rest) = if b == 32 then after_spaces rest else b ∷ rest

-- whether there is a minus, and the bytes after the sign
abbrev pub sign_at : List ℕ → Bool × List ℕ
sign_at [] = (false, [])
sign_at (b ∷ rest) = if b == 45 then (true, rest) else (if b == 43 then (false, rest) else (false, b ∷ rest))

-- the digits at the front, where there are some and only spaces follow
unfoldable pub digits_at : List ℕ → Option (List ℕ)
digits_at text =
    if length (digits_front text) == 0 then None
    else (if length (after_spaces (digits_rest text)) == 0 then Some (digits_front text) else None)

-- whether there is a minus, and the digits of a number
unfoldable pub signed_digits_at : List ℕ → Option (Bool × List ℕ)
signed_digits_at text = do
  digits ← digits_at (sign_at (after_spaces text)).1
  Some ((sign_at (after_spaces text)).0, digits)

-- the bytes before the first space, and those from it on
abbrev pub word_front : List ℕ → List ℕ
word_front [] = []
word_front (b ∷ rest) = if b == 32 then [] else b ∷ word_front rest

abbrev pub word_rest : List ℕ → List ℕ
word_rest [] = []
word_rest (b ∷ rest) = if b == 32 then b ∷ rest else word_rest rest

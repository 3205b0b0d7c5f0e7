-- The text of a moment is the one that is printed of it: the date of a day is found by going through years and months.
use Rattle.std.proofs.Common.{◌≡◌, ◌∙◌, ℕ, zero, suc, ◌+◌, ◌-◌, ◌*◌, ◌/◌, ◌%◌, ◌<◌, ◌≤◌, Bool, true, false, List, [], refl, ap, sym, subst, arith, ℤ, pos, negsuc, neg_ℤ, ◌+ℤ◌, ◌-ℤ◌, ◌*ℤ◌}
use Rattle.std.specs.Prelude.{◌&&◌, T, nat_lt, if◌then◌else◌, is_some, Option, Some, None, unwrap_or}
use Rattle.std.specs.Int.Signed.{le_z}
use Rattle.std.proofs.Math.Facts.{leb_yes}
use Rattle.std.proofs.lemmas.Bool.{ltb-true, ltb-false}
use Rattle.jiff_core.specs.Calendar as jiff
use Rattle.jiff_core.proofs.SignedLemmas.{signed_arith}
use Rattle.jiff_core.proofs.MarchLemmas.{day_count-early}
use Rattle.jiff_core.proofs.CalendarLemmas.{day_count-end, days_of_months_all}
use Rattle.pg_values.specs.declared.reading.Reading.{Reading}
use Rattle.pg_values.specs.Calendar.{day_number, days_before, days_before_year, days_in_month, days_in_year, days_of_months}
use Rattle.pg_values.specs.Moments.{IsPrintedMoment, IsReading, micros_of_day, moment_read, printed_text}
use Rattle.pg_values.specs.Range.{IsInRange, IsMoment}
use Rattle.pg_values.specs.declared.value.Value.{Value}
use Rattle.pg_values.specs.declared.value.Value.TheVariants as value
use Rattle.pg_values.specs.Text.{IsTextOf}
use Rattle.pg_values.proofs.OnePrint.{one_text}
use Rattle.pg_values.proofs.CalendarTie.{number_from_count}
use Rattle.checked_print.specs.Moments.{IsShown, is_moment, month_of, moment_text, reading, reading_since, shown_text, since_first, year_of}

-- ---- years

next_year : (y : ℕ) → days_before_year (suc y) ≡ days_before_year y + days_in_year y
unfolding days_before_year
next_year y = refl

-- the year of a day, of which so many days are over since the year y began
abbrev IsYearOf : ℕ → ℕ → ℕ → ℕ × ℕ → Type 0
IsYearOf y d last r = (r.1 < days_in_year r.0) × (days_before_year r.0 + r.1 ≡ days_before_year y + d) × (y ≤ r.0) × (r.0 ≤ last)

year_by : (b : Bool) (y d last : ℕ) (r : ℕ × ℕ) → nat_lt d (days_in_year y) ≡ b → y ≤ last
    → (days_in_year y ≤ d → IsYearOf (suc y) (d - days_in_year y) last r) → IsYearOf y d last (if b then (y, d) else r)
year_by true y d last r is le later = (ltb-true d (days_in_year y) is, refl, omega arith, le)
year_by false y d last r is le later =
    let over : days_in_year y ≤ d = ltb-false d (days_in_year y) is in
    let found = later over in
    (found.0, omega (arith, found.1, next_year y, over), omega (arith, found.2), found.3)

year_found : (more y d last : ℕ) → last ≡ y + more → days_before_year y + d < days_before_year (suc last) → IsYearOf y d last (year_of more y d)
unfolding year_of
year_found zero y d last is below =
    let same : last ≡ y = omega (arith, is) in
    let here : days_before_year y + d < days_before_year (suc y) = subst (λ (z : ℕ). days_before_year y + d < days_before_year (suc z)) same below in
    (omega (arith, here, next_year y), refl, omega arith, omega (arith, is))
year_found (suc more) y d last is below =
    year_by (nat_lt d (days_in_year y)) y d last (year_of more (suc y) (d - days_in_year y)) refl (omega (arith, is))
    (λ over. year_found more (suc y) (d - days_in_year y) last (omega (arith, is)) (omega (arith, below, next_year y, over)))

-- ---- months

next_month : (y n : ℕ) → days_of_months y (suc n) ≡ days_of_months y n + days_in_month y (suc n)
unfolding days_of_months
next_month y n = refl

no_months : (y : ℕ) → days_of_months y 0 ≡ 0
unfolding days_of_months
no_months y = refl

back : (n : ℕ) → suc n - 1 ≡ n
back n = omega arith

-- the month of a day of the year y, of which so many days are over since n months were over
abbrev IsMonthOf : ℕ → ℕ → ℕ → ℕ → ℕ × ℕ → Type 0
IsMonthOf y n d last r =
    (r.1 < days_in_month y r.0) × (days_of_months y (r.0 - 1) + r.1 ≡ days_of_months y n + d) × (suc n ≤ r.0) × (r.0 ≤ last)

month_by : (b : Bool) (y n d last : ℕ) (r : ℕ × ℕ) → nat_lt d (days_in_month y (suc n)) ≡ b → suc n ≤ last
    → (days_in_month y (suc n) ≤ d → IsMonthOf y (suc n) (d - days_in_month y (suc n)) last r) → IsMonthOf y n d last (if b then (suc n, d) else r)
month_by true y n d last r is le later =
    (ltb-true d (days_in_month y (suc n)) is, ap (λ (k : ℕ). days_of_months y k + d) (back n), omega arith, le)
month_by false y n d last r is le later =
    let over : days_in_month y (suc n) ≤ d = ltb-false d (days_in_month y (suc n)) is in
    let found = later over in
    (found.0, omega (arith, found.1, next_month y n, over), omega (arith, found.2), found.3)

month_found : (more y n d last : ℕ) → last ≡ suc n + more → days_of_months y n + d < days_of_months y last → IsMonthOf y n d last (month_of y more (suc n) d)
unfolding month_of
month_found zero y n d last is below =
    let same : last ≡ suc n = omega (arith, is) in
    let here : days_of_months y n + d < days_of_months y (suc n) = subst (λ (z : ℕ). days_of_months y n + d < days_of_months y z) same below in
    (omega (arith, here, next_month y n), ap (λ (k : ℕ). days_of_months y k + d) (back n), omega arith, omega (arith, is))
month_found (suc more) y n d last is below =
    month_by (nat_lt d (days_in_month y (suc n))) y n d last (month_of y more (suc (suc n)) (d - days_in_month y (suc n))) refl (omega (arith, is))
    (λ over. month_found more y (suc n) (d - days_in_month y (suc n)) last (omega (arith, is)) (omega (arith, below, next_month y n, over)))

months_same : (y n : ℕ) → jiff.days_of_months (pos y) n ≡ days_of_months y n
unfolding days_of_months jiff.days_of_months
months_same y zero = refl
months_same y (suc n) = ap (λ (k : ℕ). k + days_in_month y (suc n)) (months_same y n)

whole_year : (y : ℕ) → days_of_months y 12 ≡ days_in_year y
whole_year y = sym (months_same y 12) ∙ days_of_months_all (pos y)

-- ---- all days

before_first : (y n : ℕ) → n ≡ 0 → days_of_months y n ≡ 0
before_first y n is = ap (days_of_months y) is ∙ no_months y

first_day : (y : ℕ) → days_before y 1 1 ≡ days_before_year y
first_day y = omega (arith, before_first y (1 - 1) (omega arith))

count_1 : jiff.day_count (pos 1) 1 1 ≡ 3_652_791
count_1 = day_count-early (pos 1) 10000 1 1 refl (omega arith) (omega arith) (omega arith)

-- the first day of the year 1, and that of the year 10000, by their numbers
first_number : pos (days_before_year 1) -ℤ pos (days_before 2000 1 1) ≡ neg_ℤ (pos 730_119)
first_number = omega (arith, signed_arith, first_day 1, number_from_count 1 1 1 (omega arith), count_1)

last_number : pos (days_before_year 10000) -ℤ pos (days_before 2000 1 1) ≡ pos 2_921_940
last_number = omega (arith, signed_arith, first_day 10000, number_from_count 10000 1 1 (omega arith), day_count-end)

all_days : days_before_year 10000 ≡ days_before_year 1 + 3_652_059
all_days = omega (arith, signed_arith, first_number, last_number)

-- ---- the reading

abbrev IsRead : ℕ → ℕ → Reading → Type 0
IsRead day micros r = IsReading r × (moment_read r ≡ ((pos day -ℤ pos 730_119) *ℤ pos 86_400_000_000) +ℤ pos micros)

read_at : (day micros : ℕ) (y m : ℕ × ℕ) → micros < 86_400_000_000 → IsYearOf 1 day 9999 y → IsMonthOf y.0 0 y.1 12 m → IsRead day micros (reading y.0 m.0 m.1 micros)
read_at day micros y m below year month =
    let days : days_before y.0 m.0 (suc m.1) ≡ days_before_year 1 + day =
    omega (arith, year.1, month.1, no_months y.0) in
    let number : day_number y.0 m.0 (suc m.1) ≡ pos day -ℤ pos 730_119 = omega (arith, signed_arith, days, first_number) in
    let time : micros_of_day (micros / 60_000_000 / 60) (micros / 60_000_000 % 60) (micros % 60_000_000 / 1_000_000 * 1_000_000 + micros % 60_000_000 % 1_000_000) ≡ micros = omega arith in (
      record {
        day_in = record {
          year_in = omega (arith, year.3);
          from_january = omega (arith, month.2);
          to_december = omega (arith, month.3);
          from_first = omega arith;
          to_last = omega (arith, month.0);
        };
        hour_in = omega (arith, below);
        minute_in = omega arith;
        second_in = omega arith;
        micros_in = omega arith;
      },
      ap (λ (z : ℤ). (z *ℤ pos 86_400_000_000) +ℤ pos (micros_of_day (micros / 60_000_000 / 60) (micros / 60_000_000 % 60) (micros % 60_000_000 / 1_000_000 * 1_000_000 + micros % 60_000_000 % 1_000_000))) number
          ∙ ap (λ (z : ℕ). ((pos day -ℤ pos 730_119) *ℤ pos 86_400_000_000) +ℤ pos z) time,
    )

found_in : (day micros : ℕ) (y : ℕ × ℕ) → micros < 86_400_000_000 → IsYearOf 1 day 9999 y → IsRead day micros (reading y.0 (month_of y.0 11 1 y.1).0 (month_of y.0 11 1 y.1).1 micros)
found_in day micros y below year =
    read_at day micros y (month_of y.0 11 1 y.1) below year
    (month_found 11 y.0 0 y.1 12 (omega arith) (omega (arith, year.0, whole_year y.0, no_months y.0)))

found : (day micros : ℕ) → day < 3_652_059 → micros < 86_400_000_000 → IsRead day micros
    (reading (year_of 9998 1 day).0 (month_of (year_of 9998 1 day).0 11 1 (year_of 9998 1 day).1).0 (month_of (year_of 9998 1 day).0 11 1 (year_of 9998 1 day).1).1 micros)
found day micros few below =
    found_in day micros (year_of 9998 1 day) below (year_found 9998 1 day 9999 (omega arith) (omega (arith, few, all_days)))

-- a count of microseconds since the year 1 began
read_since : (n : ℕ) (micros : ℤ) → n < 315_537_897_600_000_000 → pos n -ℤ pos 63_082_281_600_000_000 ≡ micros
    → IsReading (reading_since n) × (moment_read (reading_since n) ≡ micros)
read_since n micros below is =
    let read = found (n / 86_400_000_000) (n % 86_400_000_000) (omega (arith, below)) (omega arith) in
    let split : n / 86_400_000_000 * 86_400_000_000 + n % 86_400_000_000 ≡ n = omega arith in
    (read.0, read.1 ∙ omega (arith, signed_arith, split, is))

is_true : (b : Bool) → T b → b ≡ true
is_true true t = refl
is_true false t = absurd t

both_true : (s t : Bool) → s ≡ true → t ≡ true → (s && t) ≡ true
both_true true t first second = second
both_true false t first second = absurd (let f : false ≡ true = first in cc)

in_range : (micros : ℤ) → IsMoment micros → is_moment micros ≡ true
in_range micros within =
    both_true (le_z (neg_ℤ (pos 63_082_281_600_000_000)) micros) (le_z micros (pos 252_455_615_999_999_999)) (is_true _ (within.0).le) (is_true _ (within.1).le)

since_is : (micros : ℤ) → IsMoment micros → (since_first micros < 315_537_897_600_000_000) × (pos (since_first micros) -ℤ pos 63_082_281_600_000_000 ≡ micros)
since_is (pos n) within = let h : n ≤ 252_455_615_999_999_999 = leb_yes (within.1).le in (omega (arith, h), omega (arith, signed_arith))
since_is (negsuc n) within = let h : n ≤ 63_082_281_599_999_999 = leb_yes (within.0).le in (omega (arith, h), omega (arith, signed_arith, h))

text_if : (b : Bool) (micros : ℤ) (r : Reading) → b ≡ true → IsReading r → moment_read r ≡ micros → IsPrintedMoment micros (if b then printed_text r else [])
text_if true micros r is reads means = (r, reads, means, refl)
text_if false micros r is reads means = absurd (let f : false ≡ true = is in cc)

pub text_printed : (micros : ℤ) → IsMoment micros → IsPrintedMoment micros (moment_text micros)
text_printed micros within =
    let since = since_is micros within in
    let read = read_since (since_first micros) micros since.0 since.1 in
    text_if (is_moment micros) micros (reading_since (since_first micros)) (in_range micros within) read.0 read.1

some_is : {A : Type 0} {a b : A} → Some a ≡ Some b → a ≡ b
some_is {A} {a} {b} is = ap (λ (o : Option A). unwrap_or o a) is

-- what is told of a moment's text is that text
one_text_of : (micros : ℤ) (text : List ℕ) → IsMoment micros → IsTextOf (value.Moment micros) (Some text) → text ≡ moment_text micros
one_text_of micros text within is =
    some_is (one_text (value.Moment micros) (Some text) (Some (moment_text micros)) is (moment_text micros, refl, text_printed micros within))

no_text_if : (b : Bool) (text : List ℕ) → b ≡ false → [] ≡ (if b then text else [])
no_text_if true text is = absurd (let f : true ≡ false = is in cc)
no_text_if false text is = refl

pub no_text : (micros : ℤ) → is_moment micros ≡ false → [] ≡ moment_text micros
no_text micros is = no_text_if (is_moment micros) (printed_text (reading_since (since_first micros))) is

-- ---- a value that is such a moment is in its range and has a text

pub shown_in_range : (v : Value) → IsShown v → IsInRange v
shown_in_range value.Null shown = absurd shown
shown_in_range (value.Bool truth) shown = absurd shown
shown_in_range (value.Int4 n) shown = absurd shown
shown_in_range (value.Int8 n) shown = absurd shown
shown_in_range (value.Text text) shown = absurd shown
shown_in_range (value.Moment micros) shown = shown

pub shown_has_text : (v : Value) → IsShown v → IsTextOf v None → ⊥
shown_has_text value.Null shown is = shown
shown_has_text (value.Bool truth) shown is = shown
shown_has_text (value.Int4 n) shown is = shown
shown_has_text (value.Int8 n) shown is = shown
shown_has_text (value.Text text) shown is = shown
shown_has_text (value.Moment micros) shown is = let f : false ≡ true = ap is_some is.1 in cc

-- what is told of its text is that text
pub shown_one : (v : Value) (text : List ℕ) → IsShown v → IsTextOf v (Some text) → text ≡ shown_text v
shown_one value.Null text shown is = absurd shown
shown_one (value.Bool truth) text shown is = absurd shown
shown_one (value.Int4 n) text shown is = absurd shown
shown_one (value.Int8 n) text shown is = absurd shown
shown_one (value.Text other) text shown is = absurd shown
shown_one (value.Moment micros) text shown is = one_text_of micros text shown is

pub ruleset shown = (shown_in_range, shown_has_text, shown_one)

-- The days of this calendar are those of `jiff_core`.
use Rattle.std.proofs.Common.{◌≡◌, ℕ, zero, suc, ◌+◌, ◌-◌, ◌≤◌, refl, sym, ap, subst, ◌∙◌, arith, ℤ, pos, negsuc, neg_ℤ, ◌+ℤ◌, ◌-ℤ◌, ◌≤ℤ◌, unsigned_abs}
use Rattle.std.proofs.lemmas.Int.{by_lt_z}
use Rattle.std.proofs.Common.{true, false}
use Rattle.jiff_core.specs.Calendar as jiff
use Rattle.jiff_core.specs.Date.{IsYmd}
use Rattle.jiff_core.specs.declared.civil.date.Date.{Date}
use Rattle.jiff_core.proofs.SignedLemmas.{signed_arith}
use Rattle.jiff_core.proofs.MarchLemmas.{day_count-early}
use Rattle.jiff_core.proofs.CalendarLemmas.{day_count-epoch, day_count-lt_year, days_from_civil-day_count}
use Rattle.pg_values.specs.Calendar.{days_in_year, days_in_month, days_before_year, days_of_months, days_before, day_number, IsDay}

year_same : (y : ℕ) → jiff.days_in_year (pos y) ≡ days_in_year y
year_same y = refl

month_same : (y m : ℕ) → jiff.days_in_month (pos y) m ≡ days_in_month y m
month_same y m = refl

months_same : (y n : ℕ) → jiff.days_of_months (pos y) n ≡ days_of_months y n
unfolding days_of_months jiff.days_of_months
months_same y zero = refl
months_same y (suc n) = ap (λ (k : ℕ). k + days_in_month y (suc n)) (months_same y n)

years_same : (base y : ℕ) → base ≡ 10000 → jiff.days_of_years (y + base) ≡ days_before_year y + jiff.days_of_years base
unfolding days_before_year jiff.days_of_years
years_same base zero e = let same : zero + base ≡ base = omega arith in rw same (omega arith)
years_same base (suc y) e =
    let next : suc y + base ≡ suc (y + base) = omega arith in
    let year : pos (y + base) -ℤ pos 10000 ≡ pos y = omega (arith, signed_arith) in
    rw (next, year) (omega (arith, years_same base y e))

pub count_is : (y m d : ℕ) → 1 ≤ d → jiff.day_count (pos y) m d ≡ days_before y m d + jiff.days_of_years 10000
unfolding jiff.day_count
count_is y m d h = omega (arith, years_same 10000 y refl, months_same y (m - 1))

count_2000 : jiff.day_count (pos 2000) 1 1 ≡ 4_382_910
count_2000 = day_count-early (pos 2000) 11999 1 1 refl (omega arith) (omega arith) (omega arith)

-- the number of a day, by its count from -10000-01-01
pub number_from_count : (y m d : ℕ) → 1 ≤ d → day_number y m d ≡ pos (jiff.day_count (pos y) m d) -ℤ pos 4_382_910
number_from_count y m d h = omega (arith, signed_arith, count_is y m d h, count_is 2000 1 1 (omega arith), count_2000)

-- the number of a day, by its count from 1970-01-01
pub number_is : (y m d : ℕ) → 1 ≤ d → jiff.days_from_civil (pos y) m d ≡ day_number y m d +ℤ pos 10_957
unfolding jiff.days_from_civil
number_is y m d h = omega (arith, signed_arith, number_from_count y m d h, day_count-epoch)

pub day_from_date : (y m d : ℕ) → jiff.IsDate (pos y) (pos m) (pos d) → IsDay y m d
day_from_date y m d h = record {
  year_in = omega (arith, signed_arith, h.0.1);
  from_january = omega (arith, signed_arith, h.1.0);
  to_december = omega (arith, signed_arith, h.1.1);
  from_first = omega (arith, signed_arith, h.2.0);
  to_last = omega (arith, signed_arith, h.2.1);
}

pub date_from_day : (y m d : ℕ) → IsDay y m d → jiff.IsDate (pos y) (pos m) (pos d)
date_from_day y m d h = (
  (omega (arith, signed_arith), omega (arith, signed_arith, h.year_in)),
  (omega (arith, signed_arith, h.from_january), omega (arith, signed_arith, h.to_december)),
  (omega (arith, signed_arith, h.from_first), omega (arith, signed_arith, h.to_last)),
)

-- a date of the years from 0 on has its year as a number without sign
pub year_is : (y : ℤ) (m d : ℕ) → jiff.IsCivilDate y m d → 3_652_425 ≤ jiff.day_count y m d → y ≡ pos (unsigned_abs y)
year_is y m d h low = by_lt_z y (pos 0)
    (λ lt. absurd (omega (arith, day_count-lt_year y m d (pos 0) 1 1 h (omega arith) lt, count_0)))
    (λ le. positive y le)
  where
    positive : (y : ℤ) → pos 0 ≤ℤ y → y ≡ pos (unsigned_abs y)
    positive (pos n) le = refl
    positive (negsuc n) le = absurd (omega (arith, signed_arith))

    count_0 : jiff.day_count (pos 0) 1 1 ≡ 3_652_425
    count_0 = day_count-early (pos 0) 9999 1 1 refl (omega arith) (omega arith) (omega arith)

-- the number of a date's day, where it is of the years from 1 on
pub day_of_is : (y : ℤ) (m d a : ℕ) (n : ℤ) → jiff.IsCivilDate y m d → jiff.days_from_civil y m d +ℤ pos 4_371_587 ≡ n +ℤ pos 4_382_544 → neg_ℤ (pos 730_119) ≤ℤ n → a ≡ unsigned_abs y → day_number a m d ≡ n
day_of_is y m d a n h e low is =
    let count = days_from_civil-day_count y m d in
    let sign = year_is y m d h (omega (arith, signed_arith, count, e, low)) in
    let year : y ≡ pos a = sign ∙ ap pos (sym is) in
    let number = number_is a m d h.2.0 in
    let there : jiff.days_from_civil y m d ≡ jiff.days_from_civil (pos a) m d = ap (λ (z : ℤ). jiff.days_from_civil z m d) year in
    omega (arith, signed_arith, number, there, e)

-- what the constructor of a date tells

pub no_day : (y m d : ℕ) (year month day : ℤ) → year ≡ pos y → month ≡ pos m → day ≡ pos d → (jiff.IsDate year month day → false ≡ true) → IsDay y m d → ⊥
no_day y m d year month day ey em ed told is =
    let date : jiff.IsDate year month day = subst (λ (z : ℤ). jiff.IsDate year month z) (sym ed) (subst (λ (z : ℤ). jiff.IsDate year z (pos d)) (sym em) (subst (λ (z : ℤ). jiff.IsDate z (pos m) (pos d)) (sym ey) (date_from_day y m d is))) in
    cc (told date)

pub the_day : (y m d : ℕ) (year month day : ℤ) (date : Date) (epoch n : ℤ) → year ≡ pos y → month ≡ pos m → day ≡ pos d → jiff.IsDate year month day → IsYmd year month day date
    → epoch ≡ jiff.days_from_civil date.year date.month date.day → n ≡ epoch -ℤ pos 10_957 → IsDay y m d × (n ≡ day_number y m d)
the_day y m d year month day date epoch n ey em ed is ymd e ne =
    let same : jiff.IsDate (pos y) (pos m) (pos d) = subst (λ (z : ℤ). jiff.IsDate (pos y) (pos m) z) ed (subst (λ (z : ℤ). jiff.IsDate (pos y) z day) em (subst (λ (z : ℤ). jiff.IsDate z month day) ey is)) in
    let the = day_from_date y m d same in
    let dy : date.year ≡ pos y = ymd.0 ∙ ey in
    let dm : date.month ≡ m = omega (arith, signed_arith, ymd.1, em) in
    let dd : date.day ≡ d = omega (arith, signed_arith, ymd.2, ed) in
    let there : jiff.days_from_civil date.year date.month date.day ≡ jiff.days_from_civil (pos y) m d = rw (dy, dm, dd) refl in
    (the, omega (arith, signed_arith, e, ne, there, number_is y m d the.from_first))

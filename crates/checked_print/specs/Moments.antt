-- The one text of a moment, by the date and the time of day of its count of microseconds.
use Rattle.std.specs.Prelude.{◌&&◌, ◌+◌, ◌-◌, ◌/◌, ◌%◌, ℕ, zero, suc, ℤ, pos, negsuc, neg_ℤ, nat_lt, Bool as Truth, List, [], if◌then◌else◌}
use Rattle.std.specs.Int.Signed.{le_z}
use Rattle.pg_values.specs.Calendar.{days_in_month, days_in_year}
use Rattle.pg_values.specs.Moments.{printed_text}
use Rattle.pg_values.specs.Range.{IsMoment}
use Rattle.pg_values.specs.declared.reading.Reading.{Reading}
use Rattle.pg_values.specs.declared.value.Value.{Value}
use Rattle.pg_values.specs.declared.value.Value.TheVariants.{Moment}

-- the year of a day, and how many days of it are over, where so many are over since a year began; at most so many years
-- later
unfoldable pub year_of : ℕ → ℕ → ℕ → ℕ × ℕ
year_of zero year day = (year, day)
year_of (suc more) year day =
    if nat_lt day (days_in_year year) then (year, day) else year_of more (suc year) (day - days_in_year year)

-- the month of a day of a year, and how many days of it are over, where so many are over since a month began
unfoldable pub month_of : ℕ → ℕ → ℕ → ℕ → ℕ × ℕ
month_of year zero month day = (month, day)
month_of year (suc more) month day =
    if nat_lt day (days_in_month year month) then (month, day) else month_of year more (suc month) (day - days_in_month year month)

-- a year, a month of it, the days of that month that are over, and the microseconds of the day that are over
abbrev pub reading : ℕ → ℕ → ℕ → ℕ → Reading
reading year month over micros = record {
  year = year;
  month = month;
  day = suc over;
  hour = micros / 60_000_000 / 60;
  minute = micros / 60_000_000 % 60;
  second = micros % 60_000_000 / 1_000_000;
  micros = micros % 60_000_000 % 1_000_000;
}

abbrev pub reading_in : ℕ → ℕ × ℕ → ℕ → Reading
reading_in year month micros = reading year month.0 month.1 micros

abbrev pub reading_of_day : ℕ × ℕ → ℕ → Reading
reading_of_day year micros = reading_in year.0 (month_of year.0 11 1 year.1) micros

-- of microseconds since 0001-01-01 00:00 UTC
abbrev pub reading_since : ℕ → Reading
reading_since micros = reading_of_day (year_of 9998 1 (micros / 86_400_000_000)) (micros % 86_400_000_000)

-- microseconds since 0001-01-01 00:00 UTC, of those since 2000-01-01 00:00 UTC
abbrev pub since_first : ℤ → ℕ
since_first (pos n) = 63_082_281_600_000_000 + n
since_first (negsuc n) = 63_082_281_600_000_000 - suc n

-- a moment of the years 1 to 9999, in microseconds since 2000-01-01 00:00 UTC
abbrev pub is_moment : ℤ → Truth
is_moment micros = le_z (neg_ℤ (pos 63_082_281_600_000_000)) micros && le_z micros (pos 252_455_615_999_999_999)

-- the text of a moment of the years 1 to 9999; another has none
abbrev pub moment_text : ℤ → List ℕ
moment_text micros = if is_moment micros then printed_text (reading_since (since_first micros)) else []

-- a value that is such a moment
abbrev pub IsShown : Value → Type 0
IsShown (Moment micros) = IsMoment micros
IsShown v = ⊥

-- the text of a value that is a moment; another has none
abbrev pub shown_text : Value → List ℕ
shown_text (Moment micros) = moment_text micros
shown_text v = []

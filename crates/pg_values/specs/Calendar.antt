-- The proleptic Gregorian calendar, from the year 0 on, and how its days are counted.
use Rattle.std.specs.Prelude.{ℕ, zero, suc, ◌+◌, ◌-◌, ◌%◌, ◌≤◌, Bool, not, ◌&&◌, ◌||◌, ◌==◌, if◌then◌else◌, ℤ, pos, ◌-ℤ◌}

-- every fourth year has a 29 February, but of the centuries only every fourth
abbrev pub is_leap : ℕ → Bool
is_leap year = (year % 4 == 0) && (not (year % 100 == 0) || (year % 400 == 0))

abbrev pub days_in_year : ℕ → ℕ
days_in_year year = if is_leap year then 366 else 365

-- thirty days have September, April, June and November
abbrev pub days_in_month : ℕ → ℕ → ℕ
days_in_month year month =
    if month == 2 then (if is_leap year then 29 else 28)
    else (if (month == 4) || (month == 6) || (month == 9) || (month == 11) then 30 else 31)

-- the days of the years before this one, from the year 0 on
unfoldable pub days_before_year : ℕ → ℕ
days_before_year zero = 0
days_before_year (suc year) = days_before_year year + days_in_year year

-- the days of the first so many months of the year
unfoldable pub days_of_months : ℕ → ℕ → ℕ
days_of_months year zero = 0
days_of_months year (suc month) = days_of_months year month + days_in_month year (suc month)

-- how many days lie between 1 January of the year 0 and the date
abbrev pub days_before : ℕ → ℕ → ℕ → ℕ
days_before year month day = days_before_year year + days_of_months year (month - 1) + (day - 1)

-- the number of a day: 0 for 2000-01-01, and negative before it
abbrev pub day_number : ℕ → ℕ → ℕ → ℤ
day_number year month day = pos (days_before year month day) -ℤ pos (days_before 2000 1 1)

-- the calendar has this day, in a year of at most four digits
pub record IsDay (year month day : ℕ) : Type 0 where
  pub year_in : year ≤ 9999
  pub from_january : 1 ≤ month
  pub to_december : month ≤ 12
  pub from_first : 1 ≤ day
  pub to_last : day ≤ days_in_month year month

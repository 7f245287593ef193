-- 02, §6: "worked out in the Gregorian calendar, Sunday 0"; "years 2000 to 2099".
use Rattle.std.specs.Prelude.{ℕ, zero, suc, ◌+◌, ◌-◌, ◌%◌, Bool, cond, not, ◌&&◌, ◌||◌, List, [], ◌∷◌, eqb, get_or}
use Rattle.clock.specs.declared.Date.{Date}

-- whether a number divides a year's
abbrev divides : ℕ → (year : ℕ) → Bool
divides n year = eqb (year % n) 0

-- "the Gregorian calendar": every fourth year is a leap year, but not every hundredth, but every four hundredth
unfoldable pub leap_year : (year : ℕ) → Bool
leap_year year = divides 4 year && (not (divides 100 year) || divides 400 year)

-- the same of a date's year, which is counted from 2000: "years 2000 to 2099"
abbrev pub is_leap : Date → Bool
is_leap date = leap_year (2000 + date.year)

-- "the Gregorian calendar": how many days January to December have
unfoldable pub month_lengths : (leap : Bool) → List ℕ
month_lengths leap = 31 ∷ cond leap 29 28 ∷ 31 ∷ 30 ∷ 31 ∷ 30 ∷ 31 ∷ 31 ∷ 30 ∷ 31 ∷ 30 ∷ 31 ∷ []

-- how many days a month has, January as 1; a number that is no month's has none
unfoldable pub month_days : (leap : Bool) → (month : ℕ) → ℕ
month_days leap month = get_or (0 ∷ month_lengths leap) month 0

-- how many days of a year come before a month; before the thirteenth, all of them
unfoldable pub days_before_month : (leap : Bool) → (month : ℕ) → ℕ
days_before_month leap zero = 0
days_before_month leap (suc m) = days_before_month leap m + month_days leap m

-- how many days a year has
abbrev pub year_days : (leap : Bool) → ℕ
year_days leap = days_before_month leap 13

-- how many days come before a year, both counted from 2000
unfoldable pub days_before_year : (year : ℕ) → ℕ
days_before_year zero = 0
days_before_year (suc y) = days_before_year y + year_days (leap_year (2000 + y))

-- how many days a date is behind 1 January 2000; of one that does not exist, days counted on from the first of its month, and day 00 as 01
unfoldable pub day_number : Date → ℕ
day_number date = days_before_year date.year + days_before_month (is_leap date) date.month + (date.day - 1)

-- "the weekday .. worked out in the Gregorian calendar, Sunday 0": the days are counted from 1 January 2000, a Saturday
unfoldable pub weekday_of : Date → ℕ
weekday_of date = (6 + day_number date) % 7

-- 02, §6: "year, month, day, weekday, hour, minute, second in BCD".
use Rattle.std.specs.Prelude.{ℕ, Bool, not, ◌||◌, List, [], ◌∷◌}
use Rattle.wire.specs.ByteOrder.{byte_at}
use Rattle.clock.specs.declared.Date.{Date}
use Rattle.clock.specs.declared.Time.{Time}
use Rattle.clock.specs.declared.Moment.{Moment}
use Rattle.clock.specs.Calendar.{weekday_of}
use Rattle.clock.specs.Existing.{moment_exists}
use Rattle.clock.specs.Passing.{dated, timed, moment}
use Rattle.clock.specs.Digits.{digits_of, number_of, are_digits}

-- "year, month, day, weekday, hour, minute, second in BCD"; a weekday's number is one digit
unfoldable pub shown : Moment → List ℕ
shown m =
    digits_of m.date.year
    ∷ digits_of m.date.month
    ∷ digits_of m.date.day
    ∷ weekday_of m.date
    ∷ digits_of m.time.hour
    ∷ digits_of m.time.minute
    ∷ digits_of m.time.second
    ∷ []

-- "year, month, day, .. in BCD": the date that three bytes show
unfoldable pub date_in : (year month day : ℕ) → Date
date_in year month day = dated (number_of year) (number_of month) (number_of day)

-- "hour, minute, second in BCD": the time that three bytes show
unfoldable pub time_in : (hour minute second : ℕ) → Time
time_in hour minute second = timed (number_of hour) (number_of minute) (number_of second)

-- the moment that seven bytes show: "the weekday byte is ignored"
unfoldable pub moment_in : List ℕ → Moment
moment_in bytes = moment (date_in (byte_at bytes 0) (byte_at bytes 1) (byte_at bytes 2)) (time_in (byte_at bytes 4) (byte_at bytes 5) (byte_at bytes 6))

-- "a bad digit outside the weekday"
unfoldable pub wrong_digits : List ℕ → Bool
wrong_digits bytes =
    not (are_digits (byte_at bytes 0))
    || not (are_digits (byte_at bytes 1))
    || not (are_digits (byte_at bytes 2))
    || not (are_digits (byte_at bytes 4))
    || not (are_digits (byte_at bytes 5))
    || not (are_digits (byte_at bytes 6))

-- "6 for .. a bad digit outside the weekday, or a date or time that doesn't exist"
unfoldable pub wrong_moment : List ℕ → Bool
wrong_moment bytes = wrong_digits bytes || not (moment_exists (moment_in bytes))

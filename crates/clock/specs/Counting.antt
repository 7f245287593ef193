-- What is claimed of the clock of 02, §6, said of numbers alone: what exists, and days and seconds counted.
use Rattle.std.specs.Prelude.{ℕ, zero, suc, ◌+◌, ◌*◌, ◌≤◌, ◌<◌}
use Rattle.clock.specs.declared.Date.{Date}
use Rattle.clock.specs.declared.Time.{Time}
use Rattle.clock.specs.declared.Moment.{Moment}
use Rattle.clock.specs.Calendar.{is_leap, month_days, day_number}
use Rattle.clock.specs.Passing.{next_second}

-- the opposite of "a date .. that doesn't exist", of "years 2000 to 2099"
pub record OnCalendar (date : Date) : Type 0 where
  pub in_century : date.year < 100
  pub from_january : 1 ≤ date.month
  pub to_december : date.month ≤ 12
  pub from_first : 1 ≤ date.day
  pub to_last : date.day ≤ month_days (is_leap date) date.month

-- the opposite of "a .. time that doesn't exist"
pub record OnClock (time : Time) : Type 0 where
  pub hour_below : time.hour < 24
  pub minute_below : time.minute < 60
  pub second_below : time.second < 60

-- a word of ours: how many seconds a day has
abbrev pub day_seconds : ℕ
day_seconds = 86400

-- "years 2000 to 2099": how many days they have
abbrev pub century_days : ℕ
century_days = 36525

-- "years 2000 to 2099": how many seconds they have
abbrev pub century_seconds : ℕ
century_seconds = 3155760000

-- a word of ours: how many seconds a time is behind 00:00:00
unfoldable pub second_of_day : Time → ℕ
second_of_day time = (time.hour * 60 + time.minute) * 60 + time.second

-- a word of ours: how many seconds a moment is behind "00:00:00 on 1 January 2000"
unfoldable pub second_number : Moment → ℕ
second_number m = day_number m.date * day_seconds + second_of_day m.time

-- "one second, advances it", n times
unfoldable pub later : (n : ℕ) → Moment → Moment
later zero m = m
later (suc n) m = next_second (later n m)

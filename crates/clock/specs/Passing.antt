-- 02, §6: "A new input, one second, advances it, and 23:59:59 on 31 December 2099 is followed by 00:00:00 on 1 January 2000."
use Rattle.std.specs.Prelude.{ℕ, suc, Bool, cond, ◌&&◌, leb, ltb}
use Rattle.clock.specs.declared.Date.{Date}
use Rattle.clock.specs.declared.Time.{Time}
use Rattle.clock.specs.declared.Moment.{Moment}
use Rattle.clock.specs.Calendar.{is_leap, month_days}

-- builds a date
abbrev pub dated : (year month day : ℕ) → Date
dated year month day = record { year = year; month = month; day = day }

-- builds a time
abbrev pub timed : (hour minute second : ℕ) → Time
timed hour minute second = record { hour = hour; minute = minute; second = second }

-- builds a moment
abbrev pub moment : Date → Time → Moment
moment date time = record { date = date; time = time }

-- the next day: of the month, the first of the next month, of the next year, and "31 December 2099 is followed by .. 1 January 2000"
unfoldable pub tomorrow : Date → Date
tomorrow date =
    cond (ltb date.day (month_days (is_leap date) date.month)) (dated date.year date.month (suc date.day))
    (cond (ltb date.month 12) (dated date.year (suc date.month) 1)
    (cond (ltb date.year 99) (dated (suc date.year) 1 1) (dated 0 1 1)))

-- "23:59:59", or what is past it and no time: a new day follows
unfoldable pub ends_day : Time → Bool
ends_day time = leb 23 time.hour && leb 59 time.minute && leb 59 time.second

-- the time one second later; "23:59:59 .. is followed by 00:00:00"
unfoldable pub second_later : Time → Time
second_later time =
    cond (ltb time.second 59) (timed time.hour time.minute (suc time.second))
    (cond (ltb time.minute 59) (timed time.hour (suc time.minute) 0) (cond (ltb time.hour 23) (timed (suc time.hour) 0 0) (timed 0 0 0)))

-- "one second, advances it"
unfoldable pub next_second : Moment → Moment
next_second m = moment (cond (ends_day m.time) (tomorrow m.date) m.date) (second_later m.time)

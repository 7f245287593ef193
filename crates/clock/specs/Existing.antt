-- 02, §6: "6 for .. a date or time that doesn't exist".
use Rattle.std.specs.Prelude.{Bool, ◌&&◌, leb, ltb}
use Rattle.clock.specs.declared.Date.{Date}
use Rattle.clock.specs.declared.Time.{Time}
use Rattle.clock.specs.declared.Moment.{Moment}
use Rattle.clock.specs.Calendar.{is_leap, month_days}

-- the opposite of "a date .. that doesn't exist", of "years 2000 to 2099": the month has that day; a month that is not one of twelve has none
unfoldable pub date_exists : Date → Bool
date_exists date = ltb date.year 100 && leb 1 date.day && leb date.day (month_days (is_leap date) date.month)

-- the opposite of "a .. time that doesn't exist"
unfoldable pub time_exists : Time → Bool
time_exists time = ltb time.hour 24 && ltb time.minute 60 && ltb time.second 60

-- the opposite of "a date or time that doesn't exist"
unfoldable pub moment_exists : Moment → Bool
moment_exists moment = date_exists moment.date && time_exists moment.time

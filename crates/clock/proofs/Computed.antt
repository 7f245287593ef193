-- The calendar, the next second and the bytes of a moment, by computation: what an `unfolding` line names to have all of it.
use Rattle.clock.specs.Calendar.{leap_year, month_lengths, month_days, days_before_month, days_before_year, day_number, weekday_of}
use Rattle.clock.specs.Existing.{date_exists, time_exists, moment_exists}
use Rattle.clock.specs.Passing.{tomorrow, ends_day, second_later, next_second}
use Rattle.clock.specs.Digits.{digits_of, number_of, are_digits}
use Rattle.clock.specs.Shown.{shown, date_in, time_in, moment_in, wrong_digits, wrong_moment}
use Rattle.clock.specs.Counting.{second_of_day, second_number}

unfoldable pub computing_clock : Unit {0}
unfolding leap_year month_lengths month_days days_before_month days_before_year day_number weekday_of date_exists time_exists moment_exists tomorrow ends_day second_later next_second digits_of number_of are_digits shown date_in time_in moment_in wrong_digits wrong_moment second_of_day second_number
computing_clock = tt

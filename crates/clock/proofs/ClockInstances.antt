-- Instances of the clock's laws, by computation, each of whose premises is met: 003's example, 8 November 2013, 18:56:00, and the century's last second.
use mathlib.Core.Path.{◌≡◌, refl, sym, ap, ◌∙◌}
use mathlib.Core.Bool.{true, false}
use mathlib.Core.List.{List, [], ◌∷◌}
use Prim.Native.Nat.{ℕ, ◌+◌, ◌%◌, ◌≤◌, ◌<◌}
use native.Mathlib.Omega.{arith}
use Rattle.clock.specs.declared.Date.{Date}
use Rattle.clock.specs.declared.Moment.{Moment}
use Rattle.clock.specs.Calendar.{leap_year, month_days, day_number, weekday_of}
use Rattle.clock.specs.Existing.{date_exists, time_exists, moment_exists}
use Rattle.clock.specs.Passing.{dated, timed, moment, tomorrow, next_second}
use Rattle.clock.specs.Digits.{digits_of, number_of, are_digits}
use Rattle.clock.specs.Shown.{shown, moment_in, wrong_moment}
use Rattle.clock.specs.Counting.{OnCalendar, OnClock, day_seconds, century_days, century_seconds, second_number, later}
use Rattle.clock.proofs.Computed.{computing_clock}
use Rattle.clock.proofs.TwoDigits.{number_of_digits, digits_of_number, number_below}
use Rattle.clock.proofs.Leap.{every_fourth_year}
use Rattle.clock.proofs.Days.{date_exists_exactly, month_days_within, day_number_below, tomorrow_exists, one_day_later, same_day_number}
use Rattle.clock.proofs.Weekdays.{weekday_moves_on, weekday_moves_on_but_last}
use Rattle.clock.proofs.Seconds.{time_exists_exactly, moment_exists_exactly, next_exists, later_exists, second_of_day_below, second_number_below, one_second_later, seconds_later, a_day_is_86400_seconds, same_second_number}
use Rattle.clock.proofs.Shows.{shown_read_back, shown_not_wrong, not_wrong_exists, shown_again}

-- "The example of 003 for 8 November 2013", at 18:56:00
abbrev example : Moment
example = moment (dated 13 11 8) (timed 18 56 0)

-- "23:59:59 on 31 December 2099"
abbrev last : Moment
last = moment (dated 99 12 31) (timed 23 59 59)

-- a day behind that: 23:59:59 on 1 January 2000
abbrev day_behind : Moment
day_behind = moment (dated 0 1 1) (timed 23 59 59)

-- 003's example as bytes, with a weekday that is wrong
abbrev sent : List ℕ
sent = 0x13 ∷ 0x11 ∷ 0x08 ∷ 0x00 ∷ 0x18 ∷ 0x56 ∷ 0x00 ∷ []

-- ---- the premises

pub example_exists : moment_exists example ≡ true
unfolding computing_clock
example_exists = refl

pub last_exists : moment_exists last ≡ true
unfolding computing_clock
last_exists = refl

pub example_date_exists : date_exists (dated 13 11 8) ≡ true
unfolding computing_clock
example_date_exists = refl

pub last_date_exists : date_exists (dated 99 12 31) ≡ true
unfolding computing_clock
last_date_exists = refl

pub last_time_exists : time_exists (timed 23 59 59) ≡ true
unfolding computing_clock
last_time_exists = refl

pub sent_right : wrong_moment sent ≡ false
unfolding computing_clock
sent_right = refl

pub digits_right : are_digits 0x56 ≡ true
unfolding computing_clock
digits_right = refl

-- ---- what the laws then say

pub record OfDigits : Type 0 where
  pub read : number_of 0x56 ≡ 56
  pub laid : digits_of 56 ≡ 0x56
  pub below : 56 < 100

pub of_digits : OfDigits
unfolding computing_clock
of_digits = record { read = number_of_digits 56 (omega arith); laid = digits_of_number 0x56 digits_right; below = number_below 0x56 digits_right }

pub record OfDays : Type 0 where
  pub every_fourth : leap_year 2012 ≡ true
  pub february : (28 ≤ month_days true 2) × (month_days true 2 ≤ 31)
  pub on_calendar : OnCalendar (dated 99 12 31)
  pub below : 36524 < century_days
  pub follows : date_exists (dated 0 1 1) ≡ true
  pub counted : day_number (dated 13 11 9) ≡ 5061
  pub again : day_number (dated 0 1 1) ≡ 0
  pub saturday : weekday_of (dated 13 11 9) ≡ 6
  pub no_last_day : weekday_of (dated 13 11 9) ≡ 6
  pub the_first : tomorrow (dated 99 12 31) ≡ dated 0 1 1

pub of_days : OfDays
unfolding computing_clock
of_days =
    record {
      every_fourth = every_fourth_year 12 (omega arith);
      february = month_days_within true 2 (omega arith) (omega arith);
      on_calendar = (date_exists_exactly (dated 99 12 31)).0 last_date_exists;
      below = day_number_below (dated 99 12 31) last_date_exists;
      follows = tomorrow_exists (dated 99 12 31) last_date_exists;
      counted = one_day_later (dated 13 11 8) example_date_exists;
      again = one_day_later (dated 99 12 31) last_date_exists;
      saturday = weekday_moves_on (dated 13 11 8) example_date_exists (omega arith);
      no_last_day =
          weekday_moves_on_but_last (dated 13 11 8) example_date_exists (λ same. let year : ◌≡◌ {A = ℕ} 13 99 = ap (λ (d : Date). d.year) same in omega arith);
      the_first = same_day_number (tomorrow (dated 99 12 31)) (dated 0 1 1) (tomorrow_exists (dated 99 12 31) last_date_exists) refl refl;
    }

pub record OfSeconds : Type 0 where
  pub on_clock : OnClock (timed 23 59 59)
  pub on_both : OnCalendar (dated 13 11 8) × OnClock (timed 18 56 0)
  pub of_day : 86399 < day_seconds
  pub below : 3155759999 < century_seconds
  pub follows : moment_exists (moment (dated 0 1 1) (timed 0 0 0)) ≡ true
  pub counted : second_number (next_second example) ≡ 437252161
  pub again : second_number (next_second last) ≡ 0

pub of_seconds : OfSeconds
unfolding computing_clock
of_seconds =
    record {
      on_clock = (time_exists_exactly (timed 23 59 59)).0 last_time_exists;
      on_both = (moment_exists_exactly example).0 example_exists;
      of_day = second_of_day_below (timed 23 59 59) last_time_exists;
      below = second_number_below last last_exists;
      follows = next_exists last last_exists;
      counted = one_second_later example example_exists;
      again = one_second_later last last_exists;
    }

numbers_later : ((second_number last + day_seconds) % century_seconds ≡ 86399) × ((day_number last.date + 1) % century_days ≡ 0)
unfolding computing_clock
numbers_later = (refl, refl)

day_behind_exists : moment_exists day_behind ≡ true
unfolding computing_clock
day_behind_exists = refl

day_behind_number : second_number day_behind ≡ 86399
unfolding computing_clock
day_behind_number = refl

-- 86,400 seconds behind the last one
pub record OfLater : Type 0 where
  pub exists : moment_exists (later day_seconds last) ≡ true
  pub counted : second_number (later day_seconds last) ≡ 86399
  pub day : day_number (later day_seconds last).date ≡ 0
  pub time : (later day_seconds last).time ≡ timed 23 59 59
  pub moment : later day_seconds last ≡ day_behind

pub of_later : OfLater
of_later =
    let exists = later_exists day_seconds last last_exists in
    let counted = seconds_later last last_exists day_seconds ∙ numbers_later.0 in
    let day = a_day_is_86400_seconds last last_exists in
    record {
      exists = exists;
      counted = counted;
      day = day.0 ∙ numbers_later.1;
      time = day.1;
      moment = same_second_number (later day_seconds last) day_behind exists day_behind_exists (counted ∙ sym day_behind_number);
    }

pub record OfBytes : Type 0 where
  pub read_back : moment_in (0x13 ∷ 0x11 ∷ 0x08 ∷ 0x05 ∷ 0x18 ∷ 0x56 ∷ 0x00 ∷ []) ≡ example
  pub not_wrong : wrong_moment (0x99 ∷ 0x12 ∷ 0x31 ∷ 0x04 ∷ 0x23 ∷ 0x59 ∷ 0x59 ∷ []) ≡ false
  pub exists : moment_exists (moment_in sent) ≡ true
  pub shown_again : shown (moment_in sent) ≡ 0x13 ∷ 0x11 ∷ 0x08 ∷ 0x05 ∷ 0x18 ∷ 0x56 ∷ 0x00 ∷ []

pub of_bytes : OfBytes
unfolding computing_clock
of_bytes =
    record {
      read_back = shown_read_back example example_exists;
      not_wrong = shown_not_wrong last last_exists;
      exists = not_wrong_exists sent sent_right;
      shown_again = shown_again 0x13 0x11 0x08 0x00 0x18 0x56 0x00 sent_right;
    }

-- ---- dates and times that do not exist, and one that does

-- 2000 is a leap year
pub leap_day_2000 : date_exists (dated 0 2 29) ≡ true
unfolding computing_clock
leap_day_2000 = refl

pub no_leap_day_2001 : date_exists (dated 1 2 29) ≡ false
unfolding computing_clock
no_leap_day_2001 = refl

pub no_31_april : date_exists (dated 0 4 31) ≡ false
unfolding computing_clock
no_31_april = refl

pub no_month_00 : date_exists (dated 0 0 1) ≡ false
unfolding computing_clock
no_month_00 = refl

pub no_month_13 : date_exists (dated 0 13 1) ≡ false
unfolding computing_clock
no_month_13 = refl

pub no_day_00 : date_exists (dated 0 1 0) ≡ false
unfolding computing_clock
no_day_00 = refl

pub no_hour_24 : time_exists (timed 24 0 0) ≡ false
unfolding computing_clock
no_hour_24 = refl

pub no_minute_60 : time_exists (timed 0 60 0) ≡ false
unfolding computing_clock
no_minute_60 = refl

pub no_second_60 : time_exists (timed 0 0 60) ≡ false
unfolding computing_clock
no_second_60 = refl

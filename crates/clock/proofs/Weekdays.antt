-- Laws of the weekdays: each midnight moves them on by one modulo 7, but for the jump back at the end of the century.
use mathlib.Core.Path.{◌≡◌, refl, sym, ◌∙◌}
use mathlib.Core.Bool.{true}
use Prim.Native.Nat.{◌+◌, ◌%◌, ◌<◌}
use native.Mathlib.Omega.{arith}
use Rattle.clock.specs.declared.Date.{Date}
use Rattle.clock.specs.Calendar.{day_number, weekday_of}
use Rattle.clock.specs.Existing.{date_exists}
use Rattle.clock.specs.Passing.{dated, tomorrow}
use Rattle.clock.specs.Counting.{century_days}
use Rattle.clock.proofs.Computed.{computing_clock}
use Rattle.clock.proofs.Days.{day_number_below, one_day_later, same_day_number}

-- a weekday is one of seven, whatever the date
pub weekday_below : (date : Date) → weekday_of date < 7
unfolding weekday_of
weekday_below date = omega arith

-- the next day's weekday is the next one, of every day but the last
pub weekday_moves_on : (date : Date) → date_exists date ≡ true → day_number date + 1 < century_days → weekday_of (tomorrow date) ≡ (weekday_of date + 1) % 7
unfolding weekday_of
weekday_moves_on date is more =
    let next : day_number (tomorrow date) ≡ day_number date + 1 = omega (arith, one_day_later date is) in
    rw next (omega arith)

-- the last day's number
last_number : day_number (dated 99 12 31) ≡ 36524
unfolding computing_clock
last_number = refl

last_exists : date_exists (dated 99 12 31) ≡ true
unfolding computing_clock
last_exists = refl

-- and no other date has it
not_last : (date : Date) → date_exists date ≡ true → (date ≡ dated 99 12 31 → ⊥) → day_number date + 1 < century_days
not_last date is other =
    let not : day_number date ≡ 36524 → ⊥ = λ same. other (same_day_number date (dated 99 12 31) is last_exists (same ∙ sym last_number)) in
    omega (arith, day_number_below date is)

-- the same of every day but 31 December 2099
pub weekday_moves_on_but_last : (date : Date) → date_exists date ≡ true → (date ≡ dated 99 12 31 → ⊥) → weekday_of (tomorrow date) ≡ (weekday_of date + 1) % 7
weekday_moves_on_but_last date is other = weekday_moves_on date is (not_last date is other)

-- the last day, 31 December 2099, is a Thursday
pub last_day_thursday : weekday_of (dated 99 12 31) ≡ 4
unfolding computing_clock
last_day_thursday = refl

-- "31 December 2099 is followed by .. 1 January 2000"
pub last_day_followed : tomorrow (dated 99 12 31) ≡ dated 0 1 1
unfolding computing_clock
last_day_followed = refl

-- the first day is a Saturday: behind a Thursday, since 36,525 days are no whole number of weeks
pub first_day_saturday : weekday_of (dated 0 1 1) ≡ 6
unfolding computing_clock
first_day_saturday = refl

-- "The example of 003 for 8 November 2013 gives weekday 05."
pub friday_of_003 : weekday_of (dated 13 11 8) ≡ 5
unfolding computing_clock
friday_of_003 = refl

-- source document 004's example, 9 March 2016
pub wednesday_of_004 : weekday_of (dated 16 3 9) ≡ 3
unfolding computing_clock
wednesday_of_004 = refl

-- 22 March 2014, in a display text of the source documents a SAT
pub a_saturday : weekday_of (dated 14 3 22) ≡ 6
unfolding computing_clock
a_saturday = refl

-- 2 May 2012, in another a WED
pub a_wednesday : weekday_of (dated 12 5 2) ≡ 3
unfolding computing_clock
a_wednesday = refl

-- A moment as the bytes that show it: read back it is the same, and seven bytes that are not wrong are shown again but for the weekday.
use mathlib.Core.Path.{◌≡◌}
use mathlib.Core.Bool.{Bool, true, false, not, ◌||◌}
use mathlib.Core.List.{List, [], ◌∷◌}
use Prim.Native.Nat.{ℕ}
use native.Mathlib.Omega.{arith}
use borrow.Author.Tests.{not-false}
use Rattle.wire.proofs.Truths.{or_left, or_right}
use Rattle.clock.specs.declared.Moment.{Moment}
use Rattle.clock.specs.Calendar.{is_leap, weekday_of}
use Rattle.clock.specs.Existing.{moment_exists}
use Rattle.clock.specs.Digits.{are_digits}
use Rattle.clock.specs.Shown.{shown, date_in, time_in, moment_in, wrong_digits, wrong_moment}
use Rattle.clock.proofs.TwoDigits.{digits_are_digits, number_of_digits, digits_of_number}
use Rattle.clock.proofs.Days.{month_days_within}
use Rattle.clock.proofs.Seconds.{moment_exists_exactly}

-- a moment is read back from the bytes that show it
pub shown_read_back : (m : Moment) → moment_exists m ≡ true → moment_in (shown m) ≡ m
unfolding shown moment_in date_in time_in
shown_read_back m is =
    let on = (moment_exists_exactly m).0 is in
    let month = month_days_within (is_leap m.date) m.date.month on.0.from_january on.0.to_december in
    rw (
      number_of_digits m.date.year on.0.in_century,
      number_of_digits m.date.month (omega arith),
      number_of_digits m.date.day (omega arith),
      number_of_digits m.time.hour (omega arith),
      number_of_digits m.time.minute (omega arith),
      number_of_digits m.time.second (omega arith),
    )

shown_digits : (m : Moment) → wrong_digits (shown m) ≡ false
unfolding shown wrong_digits
shown_digits m = simp digits_are_digits

-- the bytes that show a moment are not wrong
pub shown_not_wrong : (m : Moment) → moment_exists m ≡ true → wrong_moment (shown m) ≡ false
unfolding wrong_moment
shown_not_wrong m is = rw (shown_read_back m is, shown_digits m, is)

-- bytes that are not wrong show a moment that exists
pub not_wrong_exists : (bytes : List ℕ) → wrong_moment bytes ≡ false → moment_exists (moment_in bytes) ≡ true
unfolding wrong_moment
not_wrong_exists bytes right = not-false (moment_exists (moment_in bytes)) (or_right (wrong_digits bytes) (not (moment_exists (moment_in bytes))) right)

digits_right : (bytes : List ℕ) → wrong_moment bytes ≡ false → wrong_digits bytes ≡ false
unfolding wrong_moment
digits_right bytes right = or_left (wrong_digits bytes) (not (moment_exists (moment_in bytes))) right

all_six : (a b c d e f : Bool) → (not a || not b || not c || not d || not e || not f) ≡ false
    → (a ≡ true) × (b ≡ true) × (c ≡ true) × (d ≡ true) × (e ≡ true) × (f ≡ true)
all_six a b c d e f right = (grind arith, grind arith, grind arith, grind arith, grind arith, grind arith)

-- seven bytes that are not wrong are shown again, but for "the weekday byte", which "is ignored and worked out"
pub shown_again : (year month day weekday hour minute second : ℕ)
    → wrong_moment (year ∷ month ∷ day ∷ weekday ∷ hour ∷ minute ∷ second ∷ []) ≡ false
    → shown (moment_in (year ∷ month ∷ day ∷ weekday ∷ hour ∷ minute ∷ second ∷ []))
    ≡ year ∷ month ∷ day ∷ weekday_of (date_in year month day) ∷ hour ∷ minute ∷ second ∷ []
unfolding shown moment_in date_in time_in wrong_digits
shown_again year month day weekday hour minute second right =
    let are =
    all_six (are_digits year) (are_digits month) (are_digits day) (are_digits hour) (are_digits minute) (are_digits second)
    (digits_right (year ∷ month ∷ day ∷ weekday ∷ hour ∷ minute ∷ second ∷ []) right)
    in
    rw (
      digits_of_number year are.0,
      digits_of_number month are.1,
      digits_of_number day are.2,
      digits_of_number hour are.3,
      digits_of_number minute are.4,
      digits_of_number second are.5,
    )

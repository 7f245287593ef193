-- Laws of the days before a month and before a year, as the code counts them.
use mathlib.Core.Path.{◌≡◌, refl, ◌∙◌}
use mathlib.Core.Bool.{Bool, true, false}
use mathlib.Core.List.{◌∷◌, map}
use Prim.Native.Nat.{ℕ, zero, suc, ◌+◌, ◌-◌, ◌*◌, ◌/◌, ◌≤◌, ◌<◌}
use native.Mathlib.Omega.{arith}
use borrow.Author.Tests.{eqb-true}
use Rattle.std.specs.List.{range_with_len, sum}
use Rattle.std.proofs.lemmas.List.FromFn.{sum_by-map-range_with_len_more}
use Rattle.std.proofs.lemmas.Bool.Decides.{nat_tests}
use lib.Dec.{eqb, leb}
use Rattle.wire.proofs.EachBelow.{all_below, below_passes}
use Rattle.wire.proofs.PastEnd.{byte_past_end}
use Rattle.clock.specs.Calendar.{leap_year, month_lengths, month_days, days_before_month, days_before_year}

-- a number from 13 on is no month's
pub no_month : (leap : Bool) (month : ℕ) → 13 ≤ month → 0 ≡ month_days leap month
unfolding month_days month_lengths
no_month leap month past = byte_past_end (0 ∷ month_lengths leap) month past

at_most_31 : (leap : Bool) → all_below 13 (λ (month : ℕ). leb (month_days leap month) 31) ≡ true
unfolding all_below month_days month_lengths
at_most_31 true = refl
at_most_31 false = refl

month_bound : (leap : Bool) (month : ℕ) → month_days leap month ≤ 31
month_bound leap month =
    let of_a_month = below_passes 13 (λ (n : ℕ). leb (month_days leap n) 31) (at_most_31 leap) month in
    grind (arith, nat_tests, of_a_month, no_month leap month)

-- the days before a month are a sum over the months before it
pub months_summed : (leap : Bool) (n : ℕ) → sum (map (month_days leap) (range_with_len 0 n)) ≡ days_before_month leap n
unfolding days_before_month
months_summed leap zero = refl
months_summed leap (suc n) =
    let more = sum_by-map-range_with_len_more (λ d. d) (month_days leap) 0 n n (omega arith) in
    let next : n + 1 ≡ suc n = omega arith in
    rw (months_summed leap n) at (rw next at more)

pub months_bounded : (leap : Bool) (n : ℕ) → days_before_month leap n ≤ 31 * n
unfolding days_before_month
months_bounded leap zero = omega arith
months_bounded leap (suc n) = omega (arith, months_bounded leap n, month_bound leap n)

-- the days before a year by the formula
abbrev counted : ℕ → ℕ
counted y = 365 * y + (y + 3) / 4 + (y + 399) / 400 - (y + 99) / 100

one_year : all_below 256 (λ (y : ℕ). eqb (counted (suc y)) (counted y + days_before_month (leap_year (2000 + y)) 13)) ≡ true
unfolding all_below days_before_month month_days month_lengths leap_year
one_year = refl

pub by_years : (y : ℕ) → y < 256 → 365 * y + (y + 3) / 4 + (y + 399) / 400 - (y + 99) / 100 ≡ days_before_year y
unfolding days_before_year
by_years zero h = refl
by_years (suc y) h =
    let step = below_passes 256 (λ (n : ℕ). eqb (counted (suc n)) (counted n + days_before_month (leap_year (2000 + n)) 13)) one_year y (omega arith) in
    eqb-true (counted (suc y)) (counted y + days_before_month (leap_year (2000 + y)) 13) step ∙ rw (by_years y (omega arith))

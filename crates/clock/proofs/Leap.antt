-- In the years 2000 to 2099 the Gregorian rule is: every fourth year.
use mathlib.Core.Path.{◌≡◌}
use Prim.Native.Nat.{ℕ, ◌+◌, ◌%◌, ◌<◌}
use native.Mathlib.Omega.{arith}
use Rattle.std.proofs.lemmas.Bool.Decides.{nat_tests}
use lib.Dec.{eqb}
use Rattle.clock.specs.Calendar.{leap_year}

-- of "years 2000 to 2099" every fourth is a leap year: 2000, which a hundred divides, is divided by four hundred, and no other is divided by a hundred
pub every_fourth_year : (year : ℕ) → year < 100 → leap_year (2000 + year) ≡ eqb (year % 4) 0
unfolding leap_year
every_fourth_year year below =
    let by_4 : (2000 + year) % 4 ≡ year % 4 = omega arith in
    let by-100 : (2000 + year) % 100 ≡ year = omega arith in
    let by-400 : (2000 + year) % 400 ≡ year = omega arith in
    rw (by_4, by-100, by-400) (grind (arith, nat_tests))

-- Two decimal digits in a byte: what is laid are digits, and the number and the byte say each other.
use mathlib.Core.Path.{◌≡◌}
use mathlib.Core.Bool.{true}
use Prim.Native.Nat.{ℕ, ◌+◌, ◌*◌, ◌/◌, ◌%◌, ◌≤◌, ◌<◌}
use native.Mathlib.Omega.{arith}
use Rattle.std.proofs.lemmas.Bool.Decides.{nat_tests}
use lib.Dec.{leb}
use borrow.Author.Tests.{le-leb}
use Rattle.clock.specs.Digits.{digits_of, number_of, are_digits}

-- what a byte of digits is, in numbers
halves_small : (byte : ℕ) → are_digits byte ≡ true → (byte / 16 ≤ 9) × (byte % 16 ≤ 9)
unfolding are_digits
halves_small byte are = (grind (arith, nat_tests), grind (arith, nat_tests))

-- whatever the number, what is laid for it are two digits
pub digits_are_digits : (n : ℕ) → are_digits (digits_of n) ≡ true
unfolding are_digits digits_of
digits_are_digits n =
    let byte = n / 10 % 10 * 16 + n % 10 in
    let high : leb (byte / 16) 9 ≡ true = le-leb (byte / 16) 9 (omega arith) in
    let low : leb (byte % 16) 9 ≡ true = le-leb (byte % 16) 9 (omega arith) in
    rw (high, low)

-- and they fit a byte
pub digits_below : (n : ℕ) → digits_of n < 256
unfolding digits_of
digits_below n = omega arith

-- a number below 100 is read back from its digits
pub number_of_digits : (n : ℕ) → n < 100 → number_of (digits_of n) ≡ n
unfolding digits_of number_of
number_of_digits n below =
    let tens : n / 10 % 10 ≡ n / 10 = omega arith in
    let byte = n / 10 % 10 * 16 + n % 10 in
    let high : byte / 16 ≡ n / 10 = omega arith in
    let low : byte % 16 ≡ n % 10 = omega arith in
    omega arith

-- two digits are laid again for the number read from them
pub digits_of_number : (byte : ℕ) → are_digits byte ≡ true → digits_of (number_of byte) ≡ byte
unfolding digits_of number_of
digits_of_number byte are = omega (arith, halves_small byte are)

-- and that number is below 100
pub number_below : (byte : ℕ) → are_digits byte ≡ true → number_of byte < 100
unfolding number_of
number_below byte are = omega (arith, halves_small byte are)

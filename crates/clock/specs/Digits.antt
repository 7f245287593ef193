-- 02, §6: "in BCD": two decimal digits in a byte, the first in its upper half.
use Rattle.std.specs.Prelude.{ℕ, ◌+◌, ◌*◌, ◌/◌, ◌%◌, Bool, ◌&&◌, leb}

-- "in BCD": the byte that has the last two digits of a number
unfoldable pub digits_of : (n : ℕ) → ℕ
digits_of n = n / 10 % 10 * 16 + n % 10

-- "in BCD", back: the number whose two digits a byte has
unfoldable pub number_of : (byte : ℕ) → ℕ
number_of byte = byte / 16 * 10 + byte % 16

-- the opposite of "a bad digit": both are at most 9
unfoldable pub are_digits : (byte : ℕ) → Bool
are_digits byte = leb (byte / 16) 9 && leb (byte % 16) 9

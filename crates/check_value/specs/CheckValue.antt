-- 01, "Frame": "The check value is CRC-16 with x^16+x^15+x^2+1, reflected, start 0xFFFF", defined bit by bit from the polynomial.
use Rattle.std.specs.Prelude.{ℕ, zero, suc, ◌+◌, ◌-◌, ◌*◌, ◌/◌, ◌%◌, ◌^◌, List, [], ◌∷◌}
use Rattle.std.specs.Int.Bits.{bit_xor}

-- "x^16+x^15+x^2+1, reflected": x^n stands at bit 15 - n, and x^16 is the bit that falls out
unfoldable pub polynomial : ℕ
polynomial = 2 ^ (15 - 15) + 2 ^ (15 - 2) + 2 ^ (15 - 0)

-- "the value is defined bit by bit from the polynomial": one bit, the lowest, falls out, and where it was 1 the polynomial is taken off
unfoldable pub bit_step : ℕ → ℕ
bit_step value = bit_xor (value / 2) (value % 2 * polynomial)

-- so many bits, one after the other
unfoldable pub bit_steps : ℕ → ℕ → ℕ
bit_steps zero value = value
bit_steps (suc n) value = bit_steps n (bit_step value)

-- "reflected": one byte is taken in at the low end, then its eight bits go through
unfoldable pub byte_step : ℕ → ℕ → ℕ
byte_step value byte = bit_steps 8 (bit_xor value byte)

-- the value after further bytes
unfoldable pub check_from : ℕ → List ℕ → ℕ
check_from value [] = value
check_from value (byte ∷ bytes) = check_from (byte_step value byte) bytes

-- "The check value is CRC-16 with x^16+x^15+x^2+1, reflected, start 0xFFFF"
unfoldable pub check_value : List ℕ → ℕ
check_value bytes = check_from 0xFFFF bytes

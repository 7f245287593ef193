-- 02, §3: "Work the check value out from its formula."
use Rattle.std.specs.Prelude.{ℕ, ◌*◌, ◌/◌, ◌%◌, ◌^◌}
use Rattle.std.specs.Int.Bits.{bit_xor}
use Rattle.std.specs.Int.Count.{ones}

-- 1 where an odd number of bits of x are 1, and 0 where an even number are
unfoldable pub parity : ℕ → ℕ
parity x = ones x % 2

-- "its formula": with x the low byte of (value xor byte), the next value is (value >> 8) xor (x << 6) xor (x << 7) xor (C001 where the parity of x is odd)
unfoldable pub byte_formula : ℕ → ℕ → ℕ
byte_formula value byte =
    let x : ℕ = bit_xor value byte % 2 ^ 8 in
    bit_xor (bit_xor (bit_xor (value / 2 ^ 8) (x * 2 ^ 6)) (x * 2 ^ 7)) (parity x * 0xC001)

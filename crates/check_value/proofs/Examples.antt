-- 01, "Proved examples", a and b, by computation from the bitwise definition; and b by the formula of 02, §3.
use mathlib.Core.Path.{◌≡◌, refl}
use mathlib.Core.List.{[], ◌∷◌}
use native.Mathlib.Omega.{arith}
use lib.Count.{ones, ones_in}
use Rattle.check_value.specs.CheckValue.{polynomial, bit_step, bit_steps, byte_step, check_from, check_value}
use Rattle.check_value.specs.Formula.{parity, byte_formula}
use Rattle.check_value.proofs.Formula.{formula_steps}

-- a. "Check of no bytes FFFF."
pub no_bytes : check_value [] ≡ 0xFFFF
unfolding check_value check_from
no_bytes = refl

-- b. "Check of 81 00 01: 28E0."
pub read_version_lem : check_value (0x81 ∷ 0x00 ∷ 0x01 ∷ []) ≡ 0x28E0
unfolding check_value check_from byte_step bit_steps bit_step polynomial
read_version_lem = refl

-- the first of them meets what `formula_steps` asks of a byte
pub first_byte_by_formula : byte_formula 0xFFFF 0x81 ≡ byte_step 0xFFFF 0x81
first_byte_by_formula = formula_steps 0xFFFF 0x81 (omega arith)

-- all three, one after the other, by the formula
pub read_version_by_formula : byte_formula (byte_formula (byte_formula 0xFFFF 0x81) 0x00) 0x01 ≡ 0x28E0
unfolding byte_formula parity ones ones_in
read_version_by_formula = refl

-- Laws of `check_from`, by which callers go on without its text.
use mathlib.Core.Path.{◌≡◌, refl, ap, ◌∙◌}
use mathlib.Core.List.{List, [], ◌∷◌, ◌++◌}
use Prim.Native.Nat.{ℕ, zero, suc, ◌*◌, ◌/◌, ◌%◌, ◌^◌, ◌≤◌, ◌<◌}
use native.Mathlib.Omega.{arith}
use lib.Bits.{bit_xor, xor_lt}
use lib.ListN.{length, get_or, drop}
use Rattle.std.specs.List.{fold}
use Rattle.std.specs.Simd.{first_chunks}
use Rattle.wire.specs.Bytes.{Bytes}
use Rattle.check_value.specs.CheckValue.{polynomial, bit_step, bit_steps, byte_step, check_from, check_value}
use Rattle.check_value.proofs.Xor.{xor_middle}
use Rattle.check_value.proofs.Steps.{bit_steps_xor}

-- reading on: a list in two parts is read part by part
pub check_from_append : (value : ℕ) (xs ys : List ℕ) → check_from value (xs ++ ys) ≡ check_from (check_from value xs) ys
unfolding check_from
check_from_append value [] ys = refl
check_from_append value (x ∷ xs) ys = check_from_append (byte_step value x) xs ys

-- the step keeps xor, of values and of bytes
pub byte_step_xor : (v w a b : ℕ) → byte_step (bit_xor v w) (bit_xor a b) ≡ bit_xor (byte_step v a) (byte_step w b)
unfolding byte_step
byte_step_xor v w a b = ap (bit_steps 8) (xor_middle v w a b) ∙ bit_steps_xor 8 (bit_xor v a) (bit_xor w b)

bit_step_lt : (value : ℕ) → value < 2 ^ 16 → bit_step value < 2 ^ 16
unfolding bit_step polynomial
bit_step_lt value h = xor_lt 16 (value / 2) (value % 2 * polynomial) (omega arith) (omega arith)

bit_steps_lt : (n value : ℕ) → value < 2 ^ 16 → bit_steps n value < 2 ^ 16
unfolding bit_steps
bit_steps_lt zero value h = h
bit_steps_lt (suc n) value h = bit_steps_lt n (bit_step value) (bit_step_lt value h)

-- the value is below 2 ^ 16
pub check_from_lt : (value : ℕ) (xs : List ℕ) → Bytes xs → value < 2 ^ 16 → check_from value xs < 2 ^ 16
unfolding check_from byte_step
check_from_lt value [] are h = h
check_from_lt value (x ∷ xs) are h =
    let b : x < 256 = are 0 in
    check_from_lt (byte_step value x) xs (λ i. are (suc i)) (bit_steps_lt 8 (bit_xor value x) (xor_lt 16 value x h (omega arith)))

pub check_value_lt : (xs : List ℕ) → Bytes xs → check_value xs < 2 ^ 16
unfolding check_value
check_value_lt xs are = check_from_lt 0xFFFF xs are (omega arith)

-- reading on byte by byte, as the library's fold goes
by_bytes : (value : ℕ) (xs : List ℕ) → fold byte_step value xs ≡ check_from value xs
unfolding check_from
by_bytes value [] = refl
by_bytes value (x ∷ xs) = by_bytes (byte_step value x) xs

-- and two bytes at once
abbrev pub pair_step : ℕ → List ℕ → ℕ
pair_step value pair = byte_step (byte_step value (get_or pair 0 0)) (get_or pair 1 0)

-- first the pairs, and then what is left behind them
pub by_pairs : (k value : ℕ) (xs : List ℕ) (reached : ℕ) (left : List ℕ) → reached ≡ fold pair_step value (first_chunks 2 k xs) → left ≡ drop (k * 2) xs
    → k * 2 ≤ length xs → fold byte_step reached left ≡ check_from value xs
unfolding check_from
by_pairs zero value xs reached left p q fits = rw (p, q) (by_bytes value xs)
by_pairs (suc k) value [] reached left p q fits = absurd (omega arith)
by_pairs (suc k) value (x ∷ []) reached left p q fits = absurd (omega arith)
by_pairs (suc k) value (x ∷ y ∷ xs) reached left p q fits =
    let next : suc k * 2 ≡ suc (suc (k * 2)) = omega arith in
    by_pairs k (byte_step (byte_step value x) y) xs reached left p (q ∙ rw next refl) (omega arith)

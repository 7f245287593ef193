-- The formula of one byte and that of two, held against the bitwise steps at each bit.
use mathlib.Core.Path.{◌≡◌, refl, sym, ap, ap₂, ◌∙◌}
use Prim.Native.Nat.{ℕ, ◌*◌, ◌/◌, ◌%◌, ◌^◌, ◌<◌}
use native.Mathlib.Nat.{div-eq_of_lt}
use native.Mathlib.Omega.{arith}
use lib.Bits.{bit_xor, bit_and, and_mask, xor_shr, xor_mod, xor_zero_r, xor_shifted, xor_comm, xor_lt}
use lib.Count.{ones, ones_in}
use Rattle.wire.specs.ByteOrder.{word}
use Rattle.check_value.specs.CheckValue.{polynomial, bit_step, bit_steps, byte_step}
use Rattle.check_value.specs.Formula.{parity, byte_formula}
use Rattle.check_value.proofs.Xor.{xor_assoc}
use Rattle.check_value.proofs.Steps.{bit_steps_xor, bit_steps_out, bit_steps_low, bit_steps_add}
use Rattle.check_value.proofs.Linear.{Keeps, agreeing, same_by_bits, xor_keeps, then_keeps, up_keeps, odd_keeps}

-- C001 where the parity is odd
abbrev odd : ℕ → ℕ
odd x = parity x * 0xC001

-- eight steps of a byte
eight : (x : ℕ) → x < 2 ^ 8 → bit_steps 8 x ≡ bit_xor (bit_xor (x * 2 ^ 6) (x * 2 ^ 7)) (odd x)
unfolding agreeing bit_steps bit_step polynomial parity ones ones_in
eight = same_by_bits (bit_steps 8) made (bit_steps_xor 8) keeps 8 refl
  where
    moved : ℕ → ℕ
    moved x = bit_xor (x * 2 ^ 6) (x * 2 ^ 7)

    made : ℕ → ℕ
    made x = bit_xor (moved x) (odd x)

    keeps : Keeps made
    keeps = xor_keeps moved odd (xor_keeps (λ x. x * 2 ^ 6) (λ x. x * 2 ^ 7) (up_keeps 6) (up_keeps 7)) (odd_keeps 0xC001)

-- 02, §3: the formula gives the eight steps of a byte
pub formula_steps : (value byte : ℕ) → byte < 2 ^ 8 → byte_formula value byte ≡ byte_step value byte
unfolding byte_formula byte_step
formula_steps value byte h =
    let x : ℕ = bit_xor value byte in
    let low : ℕ = x % 2 ^ 8 in
    let above : x / 2 ^ 8 ≡ value / 2 ^ 8 = xor_shr value byte 8 ∙ ap (bit_xor (value / 2 ^ 8)) (div-eq_of_lt h) ∙ xor_zero_r (value / 2 ^ 8) in
    let below : low < 2 ^ 8 = omega arith in
    xor_assoc (bit_xor (value / 2 ^ 8) (low * 2 ^ 6)) (low * 2 ^ 7) (odd low)
    ∙ xor_assoc (value / 2 ^ 8) (low * 2 ^ 6) (bit_xor (low * 2 ^ 7) (odd low))
    ∙ ap₂ bit_xor (sym above) (sym (xor_assoc (low * 2 ^ 6) (low * 2 ^ 7) (odd low)) ∙ sym (eight low below))
    ∙ sym (bit_steps_low 8 x)

-- sixteen steps of a number of two bytes
sixteen : (x : ℕ) → x < 2 ^ 16
    → bit_xor (bit_xor (bit_xor (bit_xor (x / 2 ^ 2) (x / 2 ^ 2 * 2 ^ 1 % 2 ^ 16)) (x * 2 ^ 14 % 2 ^ 16)) (x * 2 ^ 14 % 2 ^ 16 / 2 ^ 2)) (odd x) ≡ bit_steps 16 x
unfolding agreeing bit_steps bit_step polynomial parity ones ones_in
sixteen x h = sym (same_by_bits (bit_steps 16) made (bit_steps_xor 16) keeps 16 refl x h)
  where
    down : ℕ → ℕ
    down x = x / 2 ^ 2

    -- what leaves sixteen bits is lost
    up : ℕ → ℕ → ℕ
    up k x = x * 2 ^ k % 2 ^ 16

    -- the high bits, once more beside themselves; the two that fall out below, at the top, once more below themselves
    high : ℕ → ℕ
    high x = bit_xor (down x) (up 1 (down x))

    moved : ℕ → ℕ
    moved x = bit_xor (bit_xor (high x) (up 14 x)) (down (up 14 x))

    made : ℕ → ℕ
    made x = bit_xor (moved x) (odd x)

    down_keeps : Keeps down
    down_keeps a b = xor_shr a b 2

    lost_keeps : (k : ℕ) → Keeps (up k)
    lost_keeps k = then_keeps (λ x. x * 2 ^ k) (λ x. x % 2 ^ 16) (up_keeps k) (λ a b. xor_mod a b 16)

    high_keeps : Keeps high
    high_keeps = xor_keeps down (λ x. up 1 (down x)) down_keeps (then_keeps down (up 1) down_keeps (lost_keeps 1))

    moved_keeps : Keeps moved
    moved_keeps =
        xor_keeps (λ x. bit_xor (high x) (up 14 x)) (λ x. down (up 14 x)) (xor_keeps high (up 14) high_keeps (lost_keeps 14))
        (then_keeps (up 14) down (lost_keeps 14) down_keeps)

    keeps : Keeps made
    keeps = xor_keeps moved odd moved_keeps (odd_keeps 0xC001)

-- two bytes taken in together
two_steps : (value first second : ℕ) → first < 2 ^ 8 → byte_step (byte_step value first) second ≡ bit_steps 16 (bit_xor value (word second first))
unfolding byte_step
two_steps value first second h =
    ap (λ (s : ℕ). bit_steps 8 (bit_xor (bit_steps 8 (bit_xor value first)) s)) (sym (bit_steps_out 8 second))
    ∙ ap (bit_steps 8) (sym (bit_steps_xor 8 (bit_xor value first) (second * 2 ^ 8)))
    ∙ bit_steps_add 8 8 (bit_xor (bit_xor value first) (second * 2 ^ 8))
    ∙ ap (bit_steps 16) (xor_assoc value first (second * 2 ^ 8) ∙ ap (bit_xor value) (xor_comm first (second * 2 ^ 8) ∙ xor_shifted second 8 first h))

-- ---- what the code works out

pub byte_read : (value byte wide taken : ℕ) → byte < 2 ^ 8 → wide ≡ byte → taken ≡ parity (bit_and (bit_xor value wide) 255) * 0xC001
    → bit_xor (bit_xor (bit_xor (value / 2 ^ 8) (bit_and (bit_xor value wide) 255 * 2 ^ 6 % 2 ^ 16)) (bit_and (bit_xor value wide) 255 * 2 ^ 7 % 2 ^ 16)) taken
    ≡ byte_step value byte
unfolding byte_formula
byte_read value byte wide taken h is is_odd =
    let x : ℕ = bit_xor value byte % 2 ^ 8 in
    let below : x < 2 ^ 8 = omega arith in
    let same : bit_and (bit_xor value byte) 255 ≡ x = and_mask (bit_xor value byte) 8 in
    let six : x * 2 ^ 6 % 2 ^ 16 ≡ x * 2 ^ 6 = omega arith in
    let seven : x * 2 ^ 7 % 2 ^ 16 ≡ x * 2 ^ 7 = omega arith in
    rw (is_odd, is, same, six, seven) (formula_steps value byte h)

pub two_read : (value first second both taken : ℕ) → value < 2 ^ 16 → first < 2 ^ 8 → second < 2 ^ 8 → both ≡ word second first
    → taken ≡ parity (bit_xor value both) * 0xC001
    → bit_xor (bit_xor (bit_xor (bit_xor (bit_xor value both / 2 ^ 2) (bit_xor value both / 2 ^ 2 * 2 ^ 1 % 2 ^ 16)) (bit_xor value both * 2 ^ 14 % 2 ^ 16))
    (bit_xor value both * 2 ^ 14 % 2 ^ 16 / 2 ^ 2)) taken ≡ byte_step (byte_step value first) second
two_read value first second both taken hv hf hs is is_odd =
    rw (is_odd, is) (sixteen (bit_xor value (word second first)) (xor_lt 16 value (word second first) hv (omega arith)) ∙ sym (two_steps value first second hf))

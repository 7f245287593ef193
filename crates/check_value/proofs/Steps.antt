-- Laws of the bitwise steps: they keep xor, and the steps of a number are those of its low bits, with its high part moved down.
use mathlib.Core.Path.{◌≡◌, refl, sym, ap, ap₂, ◌∙◌}
use Prim.Native.Nat.{ℕ, zero, suc, ◌+◌, ◌*◌, ◌/◌, ◌%◌, ◌^◌, ◌<◌}
use native.Mathlib.Nat.{zero-add, suc-add, zero-mul, mul-one, mul_assoc, pow-suc, mod-lt}
use native.Mathlib.Omega.{arith}
use lib.Bits.{bit_xor, xor_shr, xor_mod, xor_shifted, xor_zero_r, xor_self}
use lib.Pow.{split, pow_pos}
use Rattle.check_value.specs.CheckValue.{polynomial, bit_step, bit_steps}
use Rattle.check_value.proofs.Xor.{digit, xor_middle}

-- what a binary digit takes of a weight, all or none, keeps xor
pub share_xor : (weight x y : ℕ) → x < 2 → y < 2 → bit_xor x y * weight ≡ bit_xor (x * weight) (y * weight)
share_xor weight x y hx hy =
    digit (λ (a : ℕ). bit_xor a y * weight ≡ bit_xor (a * weight) (y * weight))
    (rw (zero-mul weight))
    (digit (λ (b : ℕ). bit_xor 1 b * weight ≡ bit_xor (1 * weight) (b * weight))
    (rw (zero-mul weight, xor_zero_r (1 * weight)))
    (rw (xor_self (1 * weight), zero-mul weight))
    y hy)
    x hx

pub bit_step_xor : (a b : ℕ) → bit_step (bit_xor a b) ≡ bit_xor (bit_step a) (bit_step b)
unfolding bit_step
bit_step_xor a b =
    ap₂ bit_xor (xor_shr a b 1) (ap (λ (x : ℕ). x * polynomial) (xor_mod a b 1) ∙ share_xor polynomial (a % 2) (b % 2) (omega arith) (omega arith))
    ∙ xor_middle (a / 2) (b / 2) (a % 2 * polynomial) (b % 2 * polynomial)

pub bit_steps_xor : (n a b : ℕ) → bit_steps n (bit_xor a b) ≡ bit_xor (bit_steps n a) (bit_steps n b)
unfolding bit_steps
bit_steps_xor zero a b = refl
bit_steps_xor (suc n) a b = ap (bit_steps n) (bit_step_xor a b) ∙ bit_steps_xor n (bit_step a) (bit_step b)

-- a bit that is 0 falls out
bit_step_even : (a : ℕ) → bit_step (a * 2) ≡ a
unfolding bit_step
bit_step_even a =
    let half : a * 2 / 2 ≡ a = omega arith in
    let even : a * 2 % 2 ≡ 0 = omega arith in
    rw (half, even, zero-mul polynomial, xor_zero_r a)

-- n bits that are 0 fall out and leave the rest
pub bit_steps_out : (n a : ℕ) → bit_steps n (a * 2 ^ n) ≡ a
unfolding bit_steps
bit_steps_out zero a = mul-one a
bit_steps_out (suc n) a = ap (bit_steps n) (ap bit_step (rw (pow-suc 2 n, mul_assoc)) ∙ bit_step_even (a * 2 ^ n)) ∙ bit_steps_out n a

-- first n steps, then m
pub bit_steps_add : (n m a : ℕ) → bit_steps m (bit_steps n a) ≡ bit_steps (n + m) a
unfolding bit_steps
bit_steps_add zero m a = rw (zero-add m)
bit_steps_add (suc n) m a = rw (suc-add n m) (bit_steps_add n m (bit_step a))

-- a number is its high part, moved up, and its k low bits
pub parted : (k x : ℕ) → bit_xor (x / 2 ^ k * 2 ^ k) (x % 2 ^ k) ≡ x
parted k x = xor_shifted (x / 2 ^ k) k (x % 2 ^ k) (mod-lt x (pow_pos k)) ∙ split x k

-- n steps of a number are its high part, and n steps of its n low bits
pub bit_steps_low : (n x : ℕ) → bit_steps n x ≡ bit_xor (x / 2 ^ n) (bit_steps n (x % 2 ^ n))
bit_steps_low n x =
    ap (bit_steps n) (sym (parted n x)) ∙ bit_steps_xor n (x / 2 ^ n * 2 ^ n) (x % 2 ^ n) ∙ ap (λ (y : ℕ). bit_xor y (bit_steps n (x % 2 ^ n))) (bit_steps_out n (x / 2 ^ n))

-- Functions that keep xor are known by what they make of single bits: two of them that agree at each bit agree at every number.
use mathlib.Core.Path.{◌≡◌, refl, sym, ap, ap₂, ◌∙◌}
use mathlib.Core.Bool.{Bool, true, ◌&&◌}
use Prim.Native.Nat.{ℕ, zero, suc, ◌+◌, ◌-◌, ◌*◌, ◌/◌, ◌%◌, ◌^◌, ◌<◌}
use native.Mathlib.Nat.{zero-mul, one-mul, add-zero, mod-lt}
use native.Mathlib.Numerals.{one-add}
use native.Mathlib.Omega.{arith}
use borrow.Author.Tests.{eqb-true}
use lib.Arith.{bin_ind, lt-one}
use lib.Dec.{eqb}
use lib.Pow.{pow_pos, shr_lt}
use lib.Bits.{bit_xor, xor_shr, xor_mod, xor_block, xor_self}
use lib.Count.{ones, ones_in, ones_step}
use Rattle.wire.proofs.Truths.{and_left, and_right}
use Rattle.check_value.specs.Formula.{parity}
use Rattle.check_value.proofs.Xor.{digit, xor_middle}
use Rattle.check_value.proofs.Steps.{parted, share_xor}

-- what it makes of two numbers' xor is the xor of what it makes of each
abbrev pub Keeps : (ℕ → ℕ) → Type 0
Keeps f = (a b : ℕ) → f (bit_xor a b) ≡ bit_xor (f a) (f b)

-- the test: the two agree at each of n bits
unfoldable pub agreeing : (ℕ → ℕ) → (ℕ → ℕ) → ℕ → Bool
agreeing f g zero = true
agreeing f g (suc n) = eqb (f (2 ^ n)) (g (2 ^ n)) && agreeing f g n

zero_kept : (f : ℕ → ℕ) → Keeps f → f 0 ≡ 0
zero_kept f keeps = keeps 0 0 ∙ xor_self (f 0)

-- where two agree at a bit, they agree at what a digit takes of it
at_digit : (f g : ℕ → ℕ) → Keeps f → Keeps g → (bit : ℕ) → f bit ≡ g bit → (d : ℕ) → d < 2 → f (d * bit) ≡ g (d * bit)
at_digit f g keeps-f keeps-g bit e =
    digit (λ (d : ℕ). f (d * bit) ≡ g (d * bit)) (rw (zero-mul bit, zero_kept f keeps-f, zero_kept g keeps-g)) (rw (one-mul bit) e)

-- then they agree at every number of n bits: at its highest bit by the test, at the rest by what was proved of fewer bits
pub same_by_bits : (f g : ℕ → ℕ) → Keeps f → Keeps g → (n : ℕ) → agreeing f g n ≡ true → (x : ℕ) → x < 2 ^ n → f x ≡ g x
unfolding agreeing
same_by_bits f g keeps-f keeps-g zero t x h = rw (lt-one h, zero_kept f keeps-f, zero_kept g keeps-g)
same_by_bits f g keeps-f keeps-g (suc n) t x h =
    let high : ℕ = x / 2 ^ n * 2 ^ n in
    let low : ℕ = x % 2 ^ n in
    let at-bit = eqb-true (f (2 ^ n)) (g (2 ^ n)) (and_left (eqb (f (2 ^ n)) (g (2 ^ n))) (agreeing f g n) t) in
    let at_high : f high ≡ g high = at_digit f g keeps-f keeps-g (2 ^ n) at-bit (x / 2 ^ n) (shr_lt 1 n (rw (one-add n) h)) in
    let below = and_right (eqb (f (2 ^ n)) (g (2 ^ n))) (agreeing f g n) t in
    let at_low : f low ≡ g low = same_by_bits f g keeps-f keeps-g n below low (mod-lt x (pow_pos n)) in
    ap f (sym (parted n x)) ∙ keeps-f high low ∙ ap₂ bit_xor at_high at_low ∙ sym (keeps-g high low) ∙ ap g (parted n x)

-- ---- what keeps xor

pub xor_keeps : (f g : ℕ → ℕ) → Keeps f → Keeps g → Keeps (λ x. bit_xor (f x) (g x))
xor_keeps f g keeps-f keeps-g a b = ap₂ bit_xor (keeps-f a b) (keeps-g a b) ∙ xor_middle (f a) (f b) (g a) (g b)

pub then_keeps : (f g : ℕ → ℕ) → Keeps f → Keeps g → Keeps (λ x. g (f x))
then_keeps f g keeps-f keeps-g a b = ap g (keeps-f a b) ∙ keeps-g (f a) (f b)

pub up_keeps : (k : ℕ) → Keeps (λ x. x * 2 ^ k)
up_keeps k a b =
    let none : bit_xor a b * 2 ^ k + bit_xor 0 0 ≡ bit_xor a b * 2 ^ k = add-zero (bit_xor a b * 2 ^ k) in
    sym (sym (ap₂ bit_xor (add-zero (a * 2 ^ k)) (add-zero (b * 2 ^ k))) ∙ xor_block k a b 0 0 (pow_pos k) (pow_pos k) ∙ none)

-- the lowest bit, and the parity of the rest
parity_step : (n : ℕ) → parity n ≡ bit_xor (n % 2) (parity (n / 2))
unfolding parity
parity_step n = ap (λ (x : ℕ). x % 2) (ones_step n) ∙ sum (n % 2) (ones (n / 2)) (omega arith)
  where
    turned : (m : ℕ) → 1 - m % 2 ≡ bit_xor 1 (m % 2)
    turned m = digit (λ (e : ℕ). 1 - e ≡ bit_xor 1 e) refl refl (m % 2) (omega arith)

    sum : (d m : ℕ) → d < 2 → (d + m) % 2 ≡ bit_xor d (m % 2)
    sum d m h =
        digit (λ (c : ℕ). (c + m) % 2 ≡ bit_xor c (m % 2))
        (let s : (0 + m) % 2 ≡ m % 2 = omega arith in s)
        (let s : (1 + m) % 2 ≡ 1 - m % 2 = omega arith in s ∙ turned m)
        d h

pub parity_keeps : Keeps parity
unfolding parity ones ones_in
parity_keeps a =
    bin_ind (λ (n : ℕ). (b : ℕ) → parity (bit_xor n b) ≡ bit_xor (parity n) (parity b))
    (λ b. refl)
    (λ n ih b.
    parity_step (bit_xor n b)
    ∙ ap₂ bit_xor (xor_mod n b 1) (ap parity (xor_shr n b 1) ∙ ih (b / 2))
    ∙ xor_middle (n % 2) (b % 2) (parity (n / 2)) (parity (b / 2))
    ∙ sym (ap₂ bit_xor (parity_step n) (parity_step b)))
    a

-- a weight taken where the parity is odd
pub odd_keeps : (weight : ℕ) → Keeps (λ x. parity x * weight)
unfolding parity
odd_keeps weight a b = ap (λ (p : ℕ). p * weight) (parity_keeps a b) ∙ share_xor weight (parity a) (parity b) (omega arith) (omega arith)

-- Laws of the bits of a mode byte, and of the places that it gives.
use mathlib.Core.Path.{◌≡◌, refl, sym, ◌∙◌}
use mathlib.Core.Bool.{Bool, true, false, cond}
use Prim.Native.Nat.{ℕ, zero, suc, ◌+◌, ◌/◌, ◌%◌, ◌^◌, ◌≤◌, ◌<◌}
use native.Mathlib.Nat.{pow-suc}
use native.Mathlib.Numerals.{add-one}
use native.Mathlib.Omega.{arith}
use borrow.Author.Tests.{eqb-true, eqb-false}
use lib.Dec.{eqb}
use lib.Count.{ones, ones_step}
use Rattle.std.specs.Int.{bit_at}
use Rattle.std.proofs.Common.{bit_and}
use Rattle.std.proofs.lemmas.Nat.{ones_le_self}
use Rattle.std.proofs.lemmas.Nat.Bits.{bit_at_lowest, bit_at-suc, shr_and_one}
use Rattle.curves.specs.Area.{channel_count}
use Rattle.curves.specs.Rounds.{named, place_of, round_size}

-- a bit counts as it is
pub bit : (rest : ℕ) → cond (eqb (rest % 2) 1) 1 0 ≡ rest % 2
bit rest = go (eqb (rest % 2) 1) refl
  where
    go : (b : Bool) → eqb (rest % 2) 1 ≡ b → cond b 1 0 ≡ rest % 2
    go true is = sym (eqb-true (rest % 2) 1 is)
    go false is =
        let other : rest % 2 ≡ 1 → ⊥ = eqb-false (rest % 2) 1 is in
        omega arith

-- a bit names its channel
pub named_by : (mode n : ℕ) → named mode n ≡ eqb (bit_at mode n) 1
unfolding named
named_by mode zero = rw bit_at_lowest
named_by mode (suc n) = rw bit_at-suc (named_by (mode / 2) n)

pub bit_named : (mode n : ℕ) → eqb (bit_and (mode / 2 ^ n) 1) 1 ≡ named mode n
bit_named mode n = rw (shr_and_one mode n) (sym (named_by mode n))

-- the place behind a channel's is one further where it is named
place_next : (mode n : ℕ) → cond (named mode n) 1 0 + place_of mode n ≡ place_of mode (suc n)
unfolding place_of named
place_next mode zero = refl
place_next mode (suc n) = rw (← place_next (mode / 2) n) (omega arith)

pub places_start : (mode : ℕ) → 0 ≡ place_of mode 0
unfolding place_of
places_start mode = refl

pub place_on : (mode n place : ℕ) → place ≡ place_of mode n → named mode n ≡ true → place + 1 ≡ place_of mode (n + 1)
place_on mode n place is named =
    let next = rw named at (place_next mode n) in
    rw (is, add-one n, ← next) (omega arith)

pub place_stays : (mode n place : ℕ) → place ≡ place_of mode n → named mode n ≡ false → place ≡ place_of mode (n + 1)
place_stays mode n place is not =
    let next = rw not at (place_next mode n) in
    rw (is, add-one n, ← next) (omega arith)

-- the place of a channel that is named lies inside the round
place_most : (mode n m : ℕ) → n < m → cond (named mode n) 1 0 + place_of mode n ≤ place_of mode m
unfolding place_of named
place_most mode n zero below = absurd (omega arith)
place_most mode zero (suc m) below = omega arith
place_most mode (suc n) (suc m) below = omega (arith, place_most (mode / 2) n m (omega arith))

pub place_inside : (mode n place size : ℕ) → place ≡ place_of mode n → size ≡ round_size mode → named mode n ≡ true → n < channel_count → place < size
place_inside mode n place size is-place is-size is below =
    let most = rw is at (place_most mode n channel_count below) in
    rw (is-place, is-size) (omega (arith, most))

-- so many bits, so many places
pub places_counted : (k mode : ℕ) → mode < 2 ^ k → ones mode ≡ place_of mode k
unfolding place_of
places_counted zero mode small =
    let none : mode ≡ 0 = omega arith in
    rw none (le_zero (ones_le_self 0))
  where
    le_zero : {n : ℕ} → n ≤ 0 → n ≡ 0
    le_zero few = omega arith
places_counted (suc k) mode small =
    let half : mode / 2 < 2 ^ k = omega (arith, pow-suc 2 k) in
    ones_step mode ∙ rw (bit mode, places_counted k (mode / 2) half)

-- "3 for mode 00": a mode byte names no channel exactly where it is 00. And the mode bytes and the data that are printed.
use mathlib.Core.Path.{◌≡◌, refl}
use mathlib.Core.Bool.{Bool, true, false}
use mathlib.Core.List.{[], ◌∷◌}
use Prim.Native.Nat.{ℕ, zero, suc, ◌/◌, ◌<◌, ◌^◌}
use native.Mathlib.Nat.{pow-suc}
use native.Mathlib.Omega.{arith}
use borrow.Author.Tests.{eqb-true, eqb-false, ne_eqb}
use lib.Dec.{eqb}
use Rattle.words.specs.Words.{words_of}
use Rattle.curves.specs.Rounds.{named, place_of, round_size, of_rounds, numbers_for, wrong_rounds}
use Rattle.curves.proofs.Naming.{bit}

no_bits : (n mode : ℕ) → mode < 2 ^ n → place_of mode n ≡ 0 → mode ≡ 0
unfolding place_of
no_bits zero mode small none = omega arith
no_bits (suc n) mode small none =
    let half : mode / 2 < 2 ^ n = omega (arith, pow-suc 2 n) in
    let bits = rw (bit mode) at none in
    let rest : mode / 2 ≡ 0 = no_bits n (mode / 2) half (omega arith) in
    omega arith

pub mode_00 : (mode : ℕ) → mode < 256 → eqb (round_size mode) 0 ≡ eqb mode 0
unfolding place_of
mode_00 mode small = go (eqb mode 0) refl
  where
    go : (b : Bool) → eqb mode 0 ≡ b → eqb (round_size mode) 0 ≡ b
    go true is = rw (eqb-true mode 0 is)
    go false is = ne_eqb (round_size mode) 0 (λ none. eqb-false mode 0 is (no_bits 8 mode small none))

-- the manuals' data: mode 01, then 0001 and 0010
pub printed_numbers : numbers_for (0x01 ∷ 0x00 ∷ 0x01 ∷ 0x00 ∷ 0x10 ∷ []) 0 ≡ 0x0001 ∷ 0x0010 ∷ []
unfolding numbers_for named place_of of_rounds words_of
printed_numbers = refl

pub printed_not_wrong : wrong_rounds (0x01 ∷ 0x00 ∷ 0x01 ∷ 0x00 ∷ 0x10 ∷ []) ≡ false
unfolding wrong_rounds place_of
printed_not_wrong = refl

-- mode 45 names channels 0, 2 and 6, in this order
pub mode_45 : (named 0x45 0 ≡ true) × (named 0x45 1 ≡ false) × (named 0x45 2 ≡ true) × (named 0x45 3 ≡ false) × (named 0x45 4 ≡ false) × (named 0x45 5 ≡ false)
    × (named 0x45 6 ≡ true) × (named 0x45 7 ≡ false) × (place_of 0x45 0 ≡ 0) × (place_of 0x45 2 ≡ 1) × (place_of 0x45 6 ≡ 2) × (round_size 0x45 ≡ 3)
unfolding named place_of
mode_45 = (refl, refl, refl, refl, refl, refl, refl, refl, refl, refl, refl, refl)

-- and mode 83 channels 0, 1 and 7
pub mode_83 : (named 0x83 0 ≡ true) × (named 0x83 1 ≡ true) × (named 0x83 2 ≡ false) × (named 0x83 3 ≡ false) × (named 0x83 4 ≡ false) × (named 0x83 5 ≡ false)
    × (named 0x83 6 ≡ false) × (named 0x83 7 ≡ true) × (place_of 0x83 0 ≡ 0) × (place_of 0x83 1 ≡ 1) × (place_of 0x83 7 ≡ 2) × (round_size 0x83 ≡ 3)
unfolding named place_of
mode_83 = (refl, refl, refl, refl, refl, refl, refl, refl, refl, refl, refl, refl)

-- of one round for 45 channel 2 has the second number; an unfinished round, an odd byte, no round, no mode byte and mode 00 are wrong
pub round_45 : (numbers_for (0x45 ∷ 0x12 ∷ 0x34 ∷ 0x56 ∷ 0x78 ∷ 0x9A ∷ 0xBC ∷ []) 2 ≡ 0x5678 ∷ [])
    × (wrong_rounds (0x45 ∷ 0x12 ∷ 0x34 ∷ []) ≡ true)
    × (wrong_rounds (0x45 ∷ 0x12 ∷ 0x34 ∷ 0x56 ∷ 0x78 ∷ 0x9A ∷ 0xBC ∷ 0xDE ∷ []) ≡ true)
    × (wrong_rounds (0x45 ∷ []) ≡ true) × (wrong_rounds [] ≡ true) × (wrong_rounds (0x00 ∷ 0x12 ∷ 0x34 ∷ []) ≡ true)
unfolding numbers_for named place_of of_rounds words_of wrong_rounds
round_45 = (refl, refl, refl, refl, refl, refl)

-- What a step or a slider of a good record stores is, read again in its mode, the whole number that 01 names.
use mathlib.Core.Path.{◌≡◌, refl, sym}
use mathlib.Core.Bool.{Bool, true, false, ◌||◌, true≢false}
use mathlib.Core.Logic.{inl, inr}
use Prim.Native.Nat.{ℕ, ◌<◌, ◌≤◌}
use native.Mathlib.Nat.{lt_of_le_of_lt}
use native.Mathlib.Omega.{arith}
use lib.Dec.{ltb, eqb}
use lib.IntN.{ℤ, pos, negsuc}
use lib.Signed.{le_z, mag}
use borrow.Author.Tests.{eqb-true, eqb-false, ltb-true, ltb-false, leb-true, lt-ltb}
use Rattle.stores.specs.Store.{signed, word_of, value_in, placed, good_end}
use Rattle.stores.specs.Step.{stepped, fenced, step_stores}
use Rattle.stores.specs.Slider.{Fair, slid_to, slider_stores}
use Rattle.stores.specs.Sheets.{Between}
use Rattle.stores.proofs.Slid.{slid_to_between}
use Rattle.stores.proofs.Fenced.{fenced_within}
use Rattle.stores.proofs.Placed.{stores_word, stores_byte}

mag_signed : (w : ℕ) → w < 65536 → mag (signed w) < 32768
unfolding signed
mag_signed w h = go (ltb w 32768) refl
  where
    go : (t : Bool) → ltb w 32768 ≡ t → mag (signed w) < 32768
    go true t = rw t (ltb-true w 32768 t)
    go false t = let l : 32768 ≤ w = ltb-false w 32768 t in rw t (omega arith)

signed_byte : (w : ℕ) → w < 256 → signed w ≡ pos w
unfolding signed
signed_byte w h = let l : w < 32768 = omega arith in rw (lt-ltb w 32768 l)

mag_between : (y z x : ℤ) → mag y < 32768 → mag z < 32768 → le_z y x ≡ true → le_z x z ≡ true → mag x < 32768
mag_between y (pos m) (pos n) p q h l = lt_of_le_of_lt (leb-true n m l) q
mag_between y (negsuc m) (pos n) p q h l = absurd (true≢false (sym l))
mag_between (pos m) z (negsuc n) p q h l = absurd (true≢false (sym h))
mag_between (negsuc m) z (negsuc n) p q h l = lt_of_le_of_lt (leb-true n m h) p

byte_between : (a b : ℕ) (x : ℤ) → b < 256 → le_z (pos a) x ≡ true → le_z x (pos b) ≡ true → (n : ℕ) × ((x ≡ pos n) × (n < 256))
byte_between a b (pos n) q h l = (n, (refl, lt_of_le_of_lt (leb-true n b l) q))
byte_between a b (negsuc n) q h l = absurd (true≢false (sym h))

-- a number between two that a mode holds
module _ (mode old a b : ℕ) (z : ℤ) (low : le_z (signed a) z ≡ true) (high : le_z z (signed b) ≡ true) where
  kept_word : mode ≡ 0 → a < 65536 → b < 65536 → value_in mode (placed mode old (word_of z)) ≡ z
  kept_word e p q = stores_word mode old z e (mag_between (signed a) (signed b) z (mag_signed a p) (mag_signed b q) low high)

  kept_byte : (mode ≡ 0 → ⊥) → a < 256 → b < 256 → value_in mode (placed mode old (word_of z)) ≡ z
  kept_byte n p q =
      go (byte_between a b z q (rw (signed_byte a p) at low) (rw (signed_byte b q) at high))
    where
      go : (k : ℕ) × ((z ≡ pos k) × (k < 256)) → value_in mode (placed mode old (word_of z)) ≡ z
      go (k, (e, l)) = rw e (stores_byte mode old k n l)

  module _ (p : a < 65536) (q : b < 65536) (fits-a : good_end mode a ≡ true) (fits-b : good_end mode b ≡ true) where
    kept : value_in mode (placed mode old (word_of z)) ≡ z
    kept = go (eqb mode 0) refl fits-a fits-b
      where
        go : (t : Bool) → eqb mode 0 ≡ t → (t || ltb a 256) ≡ true → (t || ltb b 256) ≡ true
            → value_in mode (placed mode old (word_of z)) ≡ z
        go true t x y = kept_word (eqb-true mode 0 t) p q
        go false t x y = kept_byte (eqb-false mode 0 t) (ltb-true a 256 x) (ltb-true b 256 y)

-- the number that a step stores, where its mode holds both ends
pub step_kept : (mode old : ℕ) (up round : Bool) (step least greatest : ℕ) → least < 65536 → greatest < 65536
    → good_end mode least ≡ true → good_end mode greatest ≡ true → le_z (signed least) (signed greatest) ≡ true
    → value_in mode (step_stores mode old up round step least greatest)
    ≡ fenced up round (signed least) (signed greatest) (stepped up (value_in mode old) step)
unfolding step_stores
step_kept mode old up round step least greatest p q fits-l fits-g ends =
    let t = stepped up (value_in mode old) step in
    let in-ends = fenced_within up round (signed least) (signed greatest) t ends in
    kept mode old least greatest (fenced up round (signed least) (signed greatest) t) in-ends.0 in-ends.1 p q fits-l fits-g

-- the number that a slider stores, where its mode holds begin and end, for every fair rounding
pub slider_kept : {ρ : ℕ → ℕ → ℕ} → Fair ρ → (mode old begin end first last at : ℕ) → begin < 65536 → end < 65536
    → good_end mode begin ≡ true → good_end mode end ≡ true
    → value_in mode (slider_stores ρ mode old begin end first last at) ≡ slid_to ρ (signed begin) (signed end) first last at
unfolding slider_stores
slider_kept {ρ} fair mode old begin end first last at p q fits-b fits-e = go (slid_to_between fair (signed begin) (signed end) first last at)
  where
    stands : ℤ
    stands = slid_to ρ (signed begin) (signed end) first last at

    go : Between (signed begin) (signed end) stands → value_in mode (placed mode old (word_of stands)) ≡ stands
    go (inl (low, high)) = kept mode old begin end stands low high p q fits-b fits-e
    go (inr (low, high)) = kept mode old end begin stands low high q p fits-e fits-b

-- Laws of the modes over all words: a byte mode keeps the other byte, and what is stored is the number that was to be stored.
use mathlib.Core.Path.{◌≡◌, refl, sym, ap, ◌∙◌}
use mathlib.Core.Bool.{Bool, true, false}
use Prim.Native.Nat.{ℕ, ◌-◌, ◌%◌, ◌<◌, ◌≤◌}
use native.Mathlib.Omega.{arith}
use lib.Dec.{eqb}
use lib.IntN.{ℤ, pos, negsuc}
use lib.Signed.{mag}
use borrow.Author.Tests.{lt-ltb, le-ltb, eqb-true, eqb-false, eq-eqb, ne_eqb}
use Rattle.wire.specs.ByteOrder.{high_byte, low_byte, word}
use Rattle.stores.specs.Store.{in_mode, signed, word_of, value_in, placed}

-- what is picked at each mode
module _ {A : Type 0} (mode : ℕ) (w h l : A) where
  in_whole : mode ≡ 0 → w ≡ in_mode mode w h l
  unfolding in_mode
  in_whole e = rw (eq-eqb mode 0 e)

  in_high : (mode ≡ 0 → ⊥) → mode ≡ 1 → h ≡ in_mode mode w h l
  unfolding in_mode
  in_high n e = rw (ne_eqb mode 0 n, eq-eqb mode 1 e)

  in_low : (mode ≡ 0 → ⊥) → (mode ≡ 1 → ⊥) → l ≡ in_mode mode w h l
  unfolding in_mode
  in_low n m = rw (ne_eqb mode 0 n, ne_eqb mode 1 m)

module _ (mode old new : ℕ) where
  placed_high : (mode ≡ 0 → ⊥) → mode ≡ 1 → placed mode old new ≡ word (low_byte new) (low_byte old)
  placed_high n e = sym (in_high mode new (word (low_byte new) (low_byte old)) (word (high_byte old) (low_byte new)) n e)

  placed_low : (mode ≡ 0 → ⊥) → (mode ≡ 1 → ⊥) → placed mode old new ≡ word (high_byte old) (low_byte new)
  placed_low n m = sym (in_low mode new (word (low_byte new) (low_byte old)) (word (high_byte old) (low_byte new)) n m)

  -- "in all byte modes the other byte stays"
  pub high_keeps_low : mode ≡ 1 → low_byte (placed mode old new) ≡ low_byte old
  high_keeps_low e =
      let n : mode ≡ 0 → ⊥ = λ z. omega arith in
      ap low_byte (placed_high n e) ∙ (omega arith)

  pub low_keeps_high : (mode ≡ 0 → ⊥) → (mode ≡ 1 → ⊥) → high_byte (placed mode old new) ≡ high_byte old
  low_keeps_high n m = ap high_byte (placed_low n m) ∙ (omega arith)

  -- "Byte modes store the code's low byte"
  pub high_stores : mode ≡ 1 → high_byte (placed mode old new) ≡ low_byte new
  high_stores e =
      let n : mode ≡ 0 → ⊥ = λ z. omega arith in
      ap high_byte (placed_high n e) ∙ (omega arith)

  pub low_stores : (mode ≡ 0 → ⊥) → (mode ≡ 1 → ⊥) → low_byte (placed mode old new) ≡ low_byte new
  low_stores n m = ap low_byte (placed_low n m) ∙ (omega arith)

-- a word holds every number from −32,768 to 32,767
pub signed_word : (z : ℤ) → mag z < 32768 → signed (word_of z) ≡ z
unfolding signed word_of
signed_word (pos n) h =
    let e : n % 65536 ≡ n = omega arith in
    rw (e, lt-ltb n 32768 h)
signed_word (negsuc n) h =
    let e : n % 65536 ≡ n = omega arith in
    let l : 32768 ≤ 65535 - n = omega arith in
    let i : 65535 - (65535 - n) ≡ n = omega arith in
    rw (e, le-ltb (65535 - n) 32768 l, i)

-- so what a mode stores it finds again: any such number in a word, 0 to 255 in a byte
pub stores_word : (mode old : ℕ) (z : ℤ) → mode ≡ 0 → mag z < 32768 → value_in mode (placed mode old (word_of z)) ≡ z
stores_word mode old z e h =
    let p : placed mode old (word_of z) ≡ word_of z = sym (in_whole mode _ _ _ e) in
    sym (in_whole mode _ _ _ e) ∙ ap signed p ∙ signed_word z h

pub stores_byte : (mode old n : ℕ) → (mode ≡ 0 → ⊥) → n < 256 → value_in mode (placed mode old (word_of (pos n))) ≡ pos n
unfolding word_of
stores_byte mode old n m h = go (eqb mode 1) refl
  where
    new : ℕ
    new = placed mode old (word_of (pos n))

    same : low_byte (word_of (pos n)) ≡ n
    same = omega arith

    go : (t : Bool) → eqb mode 1 ≡ t → value_in mode new ≡ pos n
    go true t =
        let e : mode ≡ 1 = eqb-true mode 1 t in
        sym (in_high mode (signed new) (pos (high_byte new)) (pos (low_byte new)) m e)
        ∙ ap pos (high_stores mode old (word_of (pos n)) e ∙ same)
    go false t =
        let e : mode ≡ 1 → ⊥ = eqb-false mode 1 t in
        sym (in_low mode (signed new) (pos (high_byte new)) (pos (low_byte new)) m e)
        ∙ ap pos (low_stores mode old (word_of (pos n)) m e ∙ same)

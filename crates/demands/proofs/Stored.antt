-- Laws of specs/Stored: what a mode places in a word leaves the other byte, and number and other byte leave room for one 16-bit word only.
use mathlib.Core.Path.{◌≡◌, refl, sym, ap, ◌∙◌}
use mathlib.Core.Bool.{Bool, true, false, cond}
use mathlib.Core.List.{[], ◌∷◌}
use Prim.Native.Nat.{ℕ, ◌-◌, ◌<◌}
use native.Mathlib.Omega.{arith}
use borrow.Author.Tests.{eqb-true, eqb-false}
use lib.Dec.{eqb, ltb}
use lib.IntN.{ℤ, pos, negsuc}
use Rattle.wire.specs.ByteOrder.{high_byte, low_byte}
use Rattle.wire.proofs.Truths.{never}
use Rattle.stores.specs.Store.{in_mode, signed, placed}
use Rattle.stores.specs.Step.{step_stores}
use Rattle.stores.specs.Slider.{slider_stores}
use Rattle.stores.proofs.Placed.{high_keeps_low, low_keeps_high}
use Rattle.touch.specs.declared.Setup.{Setup}
use Rattle.touch.specs.declared.StepFields.{StepFields}
use Rattle.touch.specs.declared.SliderFields.{SliderFields}
use Rattle.touch.specs.declared.Kind.{Kind}
use Rattle.touch.specs.declared.Kind.TheVariants.{Step, Slider}
use Rattle.touch.specs.declared.Record.{Record}
use Rattle.touch.specs.Rounding.{rounding_of}
use Rattle.touch.specs.Record.{digit_mode}
use Rattle.touch.specs.Act.{acted_by, acted_of}
use Rattle.demands.specs.Stored.{other_byte, Stores}

-- words with the same other byte, by mode
same_other : (mode now old : ℕ) → (mode ≡ 1 → low_byte now ≡ low_byte old) → ((mode ≡ 0 → ⊥) → (mode ≡ 1 → ⊥) → high_byte now ≡ high_byte old)
    → other_byte mode now ≡ other_byte mode old
unfolding in_mode
same_other mode now old low high = go (eqb mode 0) refl (eqb mode 1) refl
  where
    go : (a : Bool) → eqb mode 0 ≡ a → (b : Bool) → eqb mode 1 ≡ b
        → cond a [] (cond b (low_byte now ∷ []) (high_byte now ∷ [])) ≡ cond a [] (cond b (low_byte old ∷ []) (high_byte old ∷ []))
    go true p b q = refl
    go false p true q = ap (λ (byte : ℕ). byte ∷ []) (low (eqb-true mode 1 q))
    go false p false q = ap (λ (byte : ℕ). byte ∷ []) (high (eqb-false mode 0 p) (eqb-false mode 1 q))

-- "in all byte modes the other byte stays"
pub placed_keeps_other : (mode old new : ℕ) → other_byte mode (placed mode old new) ≡ other_byte mode old
placed_keeps_other mode old new = same_other mode (placed mode old new) old (high_keeps_low mode old new) (low_keeps_high mode old new)

-- so a step and a slider leave it
module _ (setup : Setup) (r : Record) (old x y : ℕ) where
  pub step_keeps_other : (f : StepFields) → r.kind ≡ Step f → other_byte r.mode (acted_of setup r old x y) ≡ other_byte r.mode old
  unfolding acted_of step_stores
  step_keeps_other f is =
      ap (λ (k : Kind). other_byte r.mode (acted_by (rounding_of setup) k r old x y)) is
      ∙ placed_keeps_other r.mode old _

  pub slider_keeps_other : (f : SliderFields) → r.kind ≡ Slider f
      → other_byte (digit_mode r.mode) (acted_of setup r old x y) ≡ other_byte (digit_mode r.mode) old
  unfolding acted_of slider_stores
  slider_keeps_other f is =
      ap (λ (k : Kind). other_byte (digit_mode r.mode) (acted_by (rounding_of setup) k r old x y)) is
      ∙ placed_keeps_other (digit_mode r.mode) old _

-- a word is known by its signed number
signed_one : (a b : ℕ) → a < 65536 → b < 65536 → signed a ≡ signed b → a ≡ b
unfolding signed
signed_one a b small-a small_b = go (ltb a 32768) (ltb b 32768)
  where
    go : (p q : Bool) → cond p (pos a) (negsuc (65535 - a)) ≡ cond q (pos b) (negsuc (65535 - b)) → a ≡ b
    go true true same = cc
    go true false same = never (cc)
    go false true same = never (cc)
    go false false same = let rests : 65535 - a ≡ 65535 - b = cc in omega arith

-- so no second word is stored
pub one_word_stored : (mode before a b : ℕ) (value : ℤ) → a < 65536 → b < 65536 → Stores mode before a value → Stores mode before b value → a ≡ b
unfolding in_mode
one_word_stored mode before a b value small-a small_b one other =
    go (eqb mode 0) (eqb mode 1) (one.stored ∙ sym other.stored) (one.other_stays ∙ sym other.other_stays)
  where
    go : (p q : Bool) → cond p (signed a) (cond q (pos (high_byte a)) (pos (low_byte a))) ≡ cond p (signed b) (cond q (pos (high_byte b)) (pos (low_byte b)))
        → cond p [] (cond q (low_byte a ∷ []) (high_byte a ∷ [])) ≡ cond p [] (cond q (low_byte b ∷ []) (high_byte b ∷ [])) → a ≡ b
    go true q value rest = signed_one a b small-a small_b value
    go false true value rest =
        let high : high_byte a ≡ high_byte b = cc in
        let low : low_byte a ≡ low_byte b = cc in
        omega arith
    go false false value rest =
        let high : high_byte a ≡ high_byte b = cc in
        let low : low_byte a ≡ low_byte b = cc in
        omega arith

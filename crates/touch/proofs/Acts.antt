-- What a good step or slider stores is, read again in its mode, the whole number that 01 names.
use mathlib.Core.Path.{◌≡◌, sym, ap, ◌∙◌}
use mathlib.Core.Bool.{true, ◌&&◌}
use Prim.Native.Nat.{ℕ, ◌<◌}
use lib.Dec.{leb, eqb}
use lib.Signed.{le_z}
use Rattle.stores.specs.Store.{signed, value_in, good_end}
use Rattle.stores.specs.Step.{stepped, fenced}
use Rattle.stores.specs.Slider.{slid_to}
use Rattle.stores.proofs.Kept.{step_kept, slider_kept}
use Rattle.touch.specs.declared.Setup.{Setup}
use Rattle.touch.specs.declared.StepFields.{StepFields}
use Rattle.touch.specs.declared.SliderFields.{SliderFields}
use Rattle.touch.specs.declared.Kind.{Kind}
use Rattle.touch.specs.declared.Kind.TheVariants.{Step, Slider}
use Rattle.touch.specs.declared.Record.{Record}
use Rattle.touch.specs.Rounding.{rounding_of}
use Rattle.touch.specs.Record.{up, round, digit_mode, along, first_edge, last_edge}
use Rattle.touch.specs.Judge.{good_mode, good_step, good_kind}
use Rattle.touch.specs.Act.{acted_by, acted_of}
use Rattle.wire.proofs.Truths.{and_left, and_right}
use Rattle.touch.proofs.GoodFields.{slider_ends}
use Rattle.touch.proofs.Rounding.{rounding_fair}

-- the last three of a step's tests on its ends
module _ (mode : ℕ) (f : StepFields) (good : good_step mode f ≡ true) where
  pub step_ends :
      (good_end mode f.least ≡ true) × ((good_end mode f.greatest ≡ true) × (le_z (signed f.least) (signed f.greatest) ≡ true))
  unfolding good_step
  step_ends =
      let shape = good_mode mode && leb 1 f.step && leb f.step 32767 in
      let low = good_end mode f.least in
      let high = good_end mode f.greatest in
      let order = le_z (signed f.least) (signed f.greatest) in
      let to-order : (shape && low && high && order) ≡ true = and_left (shape && low && high && order) (eqb f.once 1) good in
      let to_high : (shape && low && high) ≡ true = and_left (shape && low && high) order to-order in
      (and_right shape low (and_left (shape && low) high to_high), (and_right (shape && low) high to_high, and_right (shape && low && high) order to-order))

module _ (setup : Setup) (r : Record) (old x y : ℕ) (good : good_kind r r.kind ≡ true) where
  pub step_acts_as_printed : (f : StepFields) → r.kind ≡ Step f → f.least < 65536 → f.greatest < 65536
      → value_in r.mode (acted_of setup r old x y)
      ≡ fenced (up f) (round f) (signed f.least) (signed f.greatest) (stepped (up f) (value_in r.mode old) f.step)
  unfolding acted_of
  step_acts_as_printed f e p q =
      let fits = step_ends r.mode f (ap (good_kind r) (sym e) ∙ good) in
      ap (λ (k : Kind). value_in r.mode (acted_by (rounding_of setup) k r old x y)) e
      ∙ step_kept r.mode old (up f) (round f) f.step f.least f.greatest p q fits.0 fits.1.0 fits.1.1

  pub slider_acts_as_printed : (f : SliderFields) → r.kind ≡ Slider f → f.begin < 65536 → f.end < 65536
      → value_in (digit_mode r.mode) (acted_of setup r old x y)
      ≡ slid_to (rounding_of setup) (signed f.begin) (signed f.end)
      (first_edge r.mode r.area) (last_edge r.mode r.area) (along r.mode x y)
  unfolding acted_of
  slider_acts_as_printed f e p q =
      let fits = slider_ends r f (ap (good_kind r) (sym e) ∙ good) in
      ap (λ (k : Kind). value_in (digit_mode r.mode) (acted_by (rounding_of setup) k r old x y)) e
      ∙ slider_kept (rounding_fair setup) (digit_mode r.mode) old f.begin f.end (first_edge r.mode r.area) (last_edge r.mode r.area)
      (along r.mode x y) p q fits.0 fits.1

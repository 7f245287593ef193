-- What is claimed of every slider record by either scale sheet of 02, §5.
use Rattle.std.specs.Prelude.{◌≡◌, true, ℕ, ◌<◌, ℤ}
use Rattle.stores.specs.Store.{value_in}
use Rattle.touch.specs.declared.Setup.{Setup}
use Rattle.touch.specs.declared.SliderFields.{SliderFields}
use Rattle.touch.specs.declared.Kind.TheVariants.{Slider}
use Rattle.touch.specs.declared.Record.{Record}
use Rattle.touch.specs.Record.{digit_mode}
use Rattle.touch.specs.Judge.{good_slider}
use Rattle.touch.specs.Act.{acted_of}

-- a word of ours: a slider record whose fields are as printed, its begin and its end words, as two bytes hold them
pub record GoodSliderRecord (r : Record) (f : SliderFields) : Type 0 where
  pub is : r.kind ≡ Slider f
  pub good : good_slider r f ≡ true
  pub begin_is_word : f.begin < 65536
  pub end_is_word : f.end < 65536

-- "Begin and end are signed, or 0 to 255 in byte modes.": the number that stands in its word once it acted at a point, read in its mode
abbrev pub stands_at : Setup → Record → (old x y : ℕ) → ℤ
stands_at setup r old x y = value_in (digit_mode r.mode) (acted_of setup r old x y)

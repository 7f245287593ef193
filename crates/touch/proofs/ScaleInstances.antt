-- What Scale claims has something to speak of: example j's slider, 0 to 7 across 100..300, and a falling one of a low byte down 50..52, by computation.
use mathlib.Core.Path.{◌≡◌, refl}
use mathlib.Core.Logic.{inl, inr}
use Prim.Native.Nat.{ℕ}
use native.Mathlib.Omega.{arith}
use lib.IntN.{pos}
use Rattle.stores.specs.declared.Sheet.TheVariants.{Old, Revised}
use Rattle.stores.specs.Store.{in_mode, signed, word_of}
use Rattle.stores.specs.Slider.{nearest, rounded_down, rounded_to_nearest, rounded_by, slid, slid_to, slider_stores}
use Rattle.stores.specs.Sheets.{AtEdge}
use Rattle.touch.specs.declared.Setup.{Setup}
use Rattle.touch.specs.declared.Area.{Area}
use Rattle.touch.specs.declared.SliderFields.{SliderFields}
use Rattle.touch.specs.declared.Kind.TheVariants.{Slider}
use Rattle.touch.specs.declared.Record.{Record}
use Rattle.touch.specs.Rounding.{sheet_of, rounding_of}
use Rattle.touch.specs.Record.{first_edge, last_edge, along}
use Rattle.touch.specs.Judge.{good_slider}
use Rattle.touch.specs.Act.{acted_of, dragged_of}
use Rattle.touch.specs.Scale.{GoodSliderRecord, stands_at}

-- a slider's fields over an area
abbrev fields : Area → (begin end : ℕ) → SliderFields
fields area begin end = record { again = area; begin = begin; end = end }

-- a slider's record on page 0, word 0010
abbrev slider_over : Area → (mode begin end : ℕ) → Record
slider_over area mode begin end =
    record { page = 0; area = area; next = 0xFF00; kind = Slider (fields area begin end); fe = 0xFE; word = 0x0010; mode = mode }

-- the area of examples h to j
abbrev wide_area : Area
wide_area = record { xs = 100; ys = 50; xe = 300; ye = 60 }

-- three points high, so that its middle is a half
abbrev three_points : Area
three_points = record { xs = 10; ys = 50; xe = 20; ye = 52 }

-- example j, on a whole word
abbrev example_j : Record
example_j = slider_over wide_area 0x00 0 7

-- 1 to 0 on a low byte, downward on the screen
abbrev falling : Record
falling = slider_over three_points 0x21 1 0

-- a setup with these flags
abbrev setup_with : (flags : ℕ) → Setup
setup_with flags = record { h1 = 0x5A; h2 = 0xA5; flags = flags; pages = 2; width = 800; height = 480 }

-- bit 2 alone chooses
pub old_chosen : sheet_of (setup_with 3) ≡ Old
old_chosen = refl

pub revised_chosen : sheet_of (setup_with 4) ≡ Revised
revised_chosen = refl

pub example_j_good : GoodSliderRecord example_j (fields wide_area 0 7)
unfolding good_slider
example_j_good = record { is = refl; good = refl; begin_is_word = omega arith; end_is_word = omega arith }

pub falling_good : GoodSliderRecord falling (fields three_points 1 0)
unfolding good_slider
falling_good = record { is = refl; good = refl; begin_is_word = omega arith; end_is_word = omega arith }

pub at_first : AtEdge (first_edge example_j.mode example_j.area) (last_edge example_j.mode example_j.area) (along example_j.mode 100 55)
at_first = inl (omega arith)

pub at_last : AtEdge (first_edge example_j.mode example_j.area) (last_edge example_j.mode example_j.area) (along example_j.mode 300 55)
at_last = inr (omega arith)

-- where they stand: old and revised, inside, at a half, at an edge, and dragged to a point below the area
pub record Standing : Type 0 where
  pub old_inside : stands_at (setup_with 0) example_j 0 299 55 ≡ pos 6
  pub revised_inside : stands_at (setup_with 4) example_j 0 299 55 ≡ pos 7
  pub old_half : acted_of (setup_with 3) falling 0x12FF 15 51 ≡ 0x1201
  pub revised_half : acted_of (setup_with 7) falling 0x12FF 15 51 ≡ 0x1200
  pub old_edge : acted_of (setup_with 0) example_j 0xFFFF 300 55 ≡ 7
  pub revised_edge : acted_of (setup_with 4) example_j 0xFFFF 300 55 ≡ 7
  pub old_dragged : dragged_of (setup_with 0) example_j 0 299 400 ≡ 6
  pub revised_dragged : dragged_of (setup_with 4) example_j 0 299 400 ≡ 7

pub standing : Standing
unfolding in_mode signed word_of nearest rounded_down rounded_to_nearest rounded_by slid slid_to slider_stores rounding_of acted_of dragged_of
standing =
    record {
      old_inside = refl;
      revised_inside = refl;
      old_half = refl;
      revised_half = refl;
      old_edge = refl;
      revised_edge = refl;
      old_dragged = refl;
      revised_dragged = refl;
    }

-- 01, "Setup and touch table" and "Contact and lift": what the record that acts stores.
use Rattle.std.specs.Prelude.{ℕ, cond}
use Rattle.stores.specs.Store.{key_stores}
use Rattle.stores.specs.Step.{step_stores}
use Rattle.stores.specs.Slider.{slider_stores}
use Rattle.touch.specs.declared.Setup.{Setup}
use Rattle.touch.specs.declared.SliderFields.{SliderFields}
use Rattle.touch.specs.declared.Kind.{Kind}
use Rattle.touch.specs.declared.Kind.TheVariants.{Key, Step, Slider, Other}
use Rattle.touch.specs.declared.Record.{Record}
use Rattle.touch.specs.Rounding.{rounding_of}
use Rattle.touch.specs.Record.{slides, up, round, digit_mode, first_edge, last_edge, along}

-- Slider: "mode high digit 0, 1, 2 as above, low digit 0 across, 1 down; ..; 1C begin; 1E end": what it stores at a point, along its axis
abbrev pub slid_at : (rounding : ℕ → ℕ → ℕ) → Record → SliderFields → (old x y : ℕ) → ℕ
slid_at rounding r f old x y =
    slider_stores rounding (digit_mode r.mode) old f.begin f.end
    (first_edge r.mode r.area) (last_edge r.mode r.area) (along r.mode x y)

-- "Key (05)", "Step (02)", "Slider (03)": what each kind stores; a record of no kind leaves the word
abbrev pub acted_by : (rounding : ℕ → ℕ → ℕ) → Kind → Record → (old x y : ℕ) → ℕ
acted_by rounding (Key code) r old x y = key_stores r.mode old code
acted_by rounding (Step f) r old x y = step_stores r.mode old (up f) (round f) f.step f.least f.greatest
acted_by rounding (Slider f) r old x y = slid_at rounding r f old x y
acted_by rounding Other r old x y = old

-- "The first record of the current page holding the point acts": the word after that record acted on it, in a panel set up so
unfoldable pub acted_of : Setup → Record → (old x y : ℕ) → ℕ
acted_of setup r old x y = acted_by (rounding_of setup) r.kind r old x y

-- "Contact while down: .. a caught slider stores for the point moved to the nearest place in its area; nothing else acts."
unfoldable pub dragged_of : Setup → Record → (old x y : ℕ) → ℕ
dragged_of setup r old x y = cond (slides r) (acted_of setup r old x y) old

-- 01, "Slider", and 02, §5: how a slider rounds. The only place that chooses it.
use Rattle.std.specs.Prelude.{ℕ, ◌/◌, ◌%◌, cond, eqb}
use Rattle.stores.specs.declared.Sheet.{Sheet}
use Rattle.stores.specs.declared.Sheet.TheVariants.{Old, Revised}
use Rattle.stores.specs.Slider.{rounded_by}
use Rattle.touch.specs.declared.Setup.{Setup}

-- 02, §5: "flag bit 2 of setup chooses, 0 for the old"
abbrev pub sheet_of : Setup → Sheet
sheet_of s = cond (eqb (s.flags / 4 % 2) 1) Revised Old

-- "|end − begin|·d / w rounded down", or "to the nearest number": what a product and w are rounded to, in a panel set up so
unfoldable pub rounding_of : Setup → (product w : ℕ) → ℕ
rounding_of setup = rounded_by (sheet_of setup)

-- 01, "Slider", and 02, §5: what a slider stores at a point, in whole numbers, by either scale sheet.
use Rattle.std.specs.Prelude.{◌≡◌, ℕ, ◌+◌, ◌-◌, ◌*◌, ◌/◌, ◌≤◌, ◌<◌, cond, ltb, ℤ, pos, nat_abs, ◌+ℤ◌, ◌-ℤ◌}
use Rattle.std.specs.Int.Signed.{le_z}
use Rattle.stores.specs.Store.{signed, word_of, placed}
use Rattle.stores.specs.declared.Sheet.{Sheet}
use Rattle.stores.specs.declared.Sheet.TheVariants.{Old, Revised}

-- "the point moved to the nearest place in its area", along the axis
unfoldable pub nearest : (first last at : ℕ) → ℕ
nearest first last at = cond (ltb at first) first (cond (ltb last at) last at)

-- "rounded down"
unfoldable pub rounded_down : (product w : ℕ) → ℕ
rounded_down product w = product / w

-- 02, §5: "to the nearest number, halves towards the end value": of what is moved from begin towards end, so that a half counts as one more
unfoldable pub rounded_to_nearest : (product w : ℕ) → ℕ
rounded_to_nearest product w = (2 * product + w) / (2 * w)

-- 02, §5: "The trade's revised scale sheet rounds a slider to the nearest number, ..; the old sheet rounded down."
unfoldable pub rounded_by : Sheet → (product w : ℕ) → ℕ
rounded_by Old = rounded_down
rounded_by Revised = rounded_to_nearest

-- what a rounding of product / w has to keep, so that a slider begins at begin, ends at end and never turns back
pub record Fair (rounding : ℕ → ℕ → ℕ) : Type 0 where
  pub none : (w : ℕ) → rounding 0 w ≡ 0
  pub all : (n w : ℕ) → 0 < w → rounding (n * w) w ≡ n
  pub rising : (m n w : ℕ) → m ≤ n → rounding m w ≤ rounding n w

-- "|end − begin|·d / w rounded down is moved from begin towards end", for any rounding
unfoldable pub slid : (rounding : ℕ → ℕ → ℕ) → (begin end : ℤ) → (d w : ℕ) → ℤ
slid rounding begin end d w =
    let moved = pos (rounding (nat_abs (end -ℤ begin) * d) w) in
    cond (le_z begin end) (begin +ℤ moved) (begin -ℤ moved)

-- "with d the distance from the first edge and w the edge-to-edge distance"
unfoldable pub slid_to : (rounding : ℕ → ℕ → ℕ) → (begin end : ℤ) → (first last at : ℕ) → ℤ
slid_to rounding begin end first last at = slid rounding begin end (nearest first last at - first) (last - first)

-- "Begin and end are signed, or 0 to 255 in byte modes."; "in all byte modes the other byte stays": the word after a slider acted on it, the point at a place
-- along the axis, for any rounding
unfoldable pub slider_stores : (rounding : ℕ → ℕ → ℕ) → (mode old begin end first last at : ℕ) → ℕ
slider_stores rounding mode old begin end first last at =
    placed mode old (word_of (slid_to rounding (signed begin) (signed end) first last at))

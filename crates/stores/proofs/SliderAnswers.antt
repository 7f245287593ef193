-- Laws of the slider's functions.
use mathlib.Core.Path.{◌≡◌, sym}
use mathlib.Core.Bool.{true, false}
use Prim.Native.Nat.{ℕ, ◌+◌, ◌-◌, ◌*◌, ◌/◌, ◌%◌, ◌≤◌, ◌<◌}
use native.Mathlib.Nat.{mul-le-mul_left, add-mul, div-add-mod', mod-lt, pos_of_ne-zero}
use native.Mathlib.Omega.{arith}
use lib.IntN.{ℤ, pos, nat_abs, ◌+ℤ◌, ◌-ℤ◌}
use lib.Signed.{le_z}
use mir.Syntax.{w64}
use mir.Val.{Fits}
use mir.Facts.{to_z-of_z}
use Rattle.stores.specs.declared.Sheet.{Sheet}
use Rattle.stores.specs.Slider.{nearest, rounded_to_nearest, rounded_by, slid, slid_to}
use Rattle.stores.proofs.Roundings.{nearest_of_none, nearest_is, rounded_by_fair}
use Rattle.stores.proofs.Slid.{near_le, share_le}

pub nearest_nothing : (product w : ℕ) → w ≡ 0 → 0 ≡ rounded_to_nearest product w
nearest_nothing product w e = sym (nearest_of_none product w e)

-- what `rounded_to_nearest` knows of a w above 0
module _ (product w : ℕ) (some : w ≡ 0 → ⊥) where
  divided : (product / w * w + product % w ≡ product) × (product % w < w)
  divided = (div-add-mod' product w, mod-lt product (pos_of_ne-zero some))

  pub left_fits : product % w ≤ w
  left_fits = omega (arith, divided.1)

  pub nearest_quotient : product % w < w - product % w → product / w ≡ rounded_to_nearest product w
  nearest_quotient h = sym (nearest_is product w (pos_of_ne-zero some) (product / w) (omega (arith, divided.0)) (omega (arith, divided.0)))

  pub nearest_onward : w - product % w ≤ product % w → product / w + 1 ≡ rounded_to_nearest product w
  nearest_onward h =
      let one : (product / w + 1) * w ≡ product / w * w + 1 * w = add-mul (product / w) 1 w in
      sym (nearest_is product w (pos_of_ne-zero some) (product / w + 1) (omega (arith, divided.0)) (omega (arith, divided.0, divided.1)))

  -- w is 2 or more there, so that the quotient is at most half of what 64 bits hold
  pub onward_fits : Fits w64 product → w - product % w ≤ product % w → Fits w64 (product / w + 1)
  onward_fits fits h =
      let twice : product / w * 2 ≤ product / w * w = mul-le-mul_left (product / w) (omega (arith, divided.1)) in
      record { fits = omega (arith, divided.0, fits.fits) }

-- what is moved of a way is at most the way
pub share_at_most : (sheet : Sheet) (way first last at : ℕ) → rounded_by sheet (way * (nearest first last at - first)) (last - first) ≤ way
share_at_most sheet way first last at = share_le (rounded_by_fair sheet) way (nearest first last at - first) (last - first) (near_le first last at)

-- where a slider stands that has moved so far of its way
module _ (sheet : Sheet) (from to : ℤ) (first last at way share : ℕ) (is_way : way ≡ nat_abs (to -ℤ from))
    (is_share : share ≡ rounded_by sheet (way * (nearest first last at - first)) (last - first)) where
  pub rises : le_z from to ≡ true → from +ℤ pos share ≡ slid_to (rounded_by sheet) from to first last at
  unfolding slid slid_to
  rises up = rw (is_share, is_way, up)

  pub falls : le_z from to ≡ false → from -ℤ pos share ≡ slid_to (rounded_by sheet) from to first last at
  unfolding slid slid_to
  falls down = rw (is_share, is_way, down)

pub ruleset standing = (to_z-of_z, rises, falls)

pub ruleset nearest_laws = (nearest_nothing, left_fits, nearest_quotient, nearest_onward, onward_fits)

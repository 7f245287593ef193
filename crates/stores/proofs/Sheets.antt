-- The two scale sheets side by side, of every slider over whole numbers: how far each moves; they agree at the two edges and never differ by more than one;
-- the revised one is never further than half a unit from the exact quotient.
use mathlib.Core.Path.{◌≡◌, refl, sym, ◌∙◌}
use mathlib.Core.Bool.{Bool, true, false}
use mathlib.Core.Logic.{inl, inr}
use Prim.Native.Nat.{ℕ, ◌+◌, ◌-◌, ◌*◌, ◌≤◌, ◌<◌}
use native.Mathlib.Omega.{arith}
use lib.Dec.{ltb}
use borrow.Author.Tests.{ltb-true, ltb-false}
use lib.IntN.{ℤ, nat_abs, sub_ℕ, ◌-ℤ◌}
use Rattle.stores.specs.declared.Sheet.{Sheet}
use Rattle.stores.specs.Slider.{nearest, rounded_to_nearest, rounded_by, Fair, slid, slid_to}
use Rattle.stores.specs.Sheets.{AtEdge, apart}
use Rattle.stores.proofs.Differences.{sub_rise, sub_fall, over_one}
use Rattle.stores.proofs.Roundings.{rounded_to_nearest_fair, rounded_by_fair, nearest_within, sheets_apart}
use Rattle.stores.proofs.Slid.{Way, rises, falls, way, near_le, slid_to_first, slid_to_last, slid_first}

-- how far a slider has moved from begin is what its rounding says
module _ {ρ : ℕ → ℕ → ℕ} (fair : Fair ρ) where
  slid_moved : (d w : ℕ) → d ≤ w → (begin end : ℤ) → nat_abs (slid ρ begin end d w -ℤ begin) ≡ ρ (nat_abs (end -ℤ begin) * d) w
  slid_moved d w h =
      over_one (λ y z. nat_abs (slid ρ y z d w -ℤ y) ≡ ρ (nat_abs (z -ℤ y) * d) w) (λ b e c. go b e c (way fair c b e d w h))
    where
      go : (b e c : ℕ) → Way ρ c b e d w
          → nat_abs (slid ρ (sub_ℕ b c) (sub_ℕ e c) d w -ℤ sub_ℕ b c) ≡ ρ (nat_abs (sub_ℕ e c -ℤ sub_ℕ b c) * d) w
      go b e c (rises m up p l s) = rw (s, sub_rise c b (b + m) (omega arith), sub_rise c b e up) (omega arith)
      go b e c (falls m down p l s) = rw (s, sub_fall c b (b - m) (omega arith), sub_fall c b e (omega arith)) (omega arith)

  pub slid_to_moved : (begin end : ℤ) (first last at : ℕ)
      → nat_abs (slid_to ρ begin end first last at -ℤ begin) ≡ ρ (nat_abs (end -ℤ begin) * (nearest first last at - first)) (last - first)
  unfolding slid_to
  slid_to_moved begin end first last at = slid_moved (nearest first last at - first) (last - first) (near_le first last at) begin end

module _ (begin end : ℤ) (first last : ℕ) where
  -- an area of no width has begin everywhere
  no_width : {ρ : ℕ → ℕ → ℕ} → Fair ρ → (at : ℕ) → last ≤ first → slid_to ρ begin end first last at ≡ begin
  unfolding slid_to
  no_width {ρ} fair at h =
      let near = near_le first last at in
      let none : nearest first last at - first ≡ 0 = omega arith in
      rw none (slid_first fair (last - first) begin end)

  -- "Both agree at the two edges": every two roundings that are fair do
  pub agree_at_the_edges : {ρ σ : ℕ → ℕ → ℕ} → Fair ρ → Fair σ → (at : ℕ) → AtEdge first last at
      → slid_to ρ begin end first last at ≡ slid_to σ begin end first last at
  agree_at_the_edges {ρ} {σ} one other at (inl h) =
      slid_to_first one begin end first last at h ∙ sym (slid_to_first other begin end first last at h)
  agree_at_the_edges {ρ} {σ} one other at (inr h) = go (ltb first last) refl
    where
      go : (b : Bool) → ltb first last ≡ b → slid_to ρ begin end first last at ≡ slid_to σ begin end first last at
      go true e =
          let wide : first < last = ltb-true first last e in
          slid_to_last one begin end first last at wide h ∙ sym (slid_to_last other begin end first last at wide h)
      go false e =
          let narrow : last ≤ first = ltb-false first last e in
          no_width one at narrow ∙ sym (no_width other at narrow)

  -- "to the nearest number": how far it has moved, times w, lies within half of w of |end − begin|·d
  pub revised_within_half : (at : ℕ) → first < last
      → 2 * apart (nat_abs (slid_to rounded_to_nearest begin end first last at -ℤ begin) * (last - first)) (nat_abs (end -ℤ begin) * (nearest first last at - first))
      ≤ last - first
  revised_within_half at wide =
      let product = nat_abs (end -ℤ begin) * (nearest first last at - first) in
      let w = last - first in
      let within = nearest_within product w (omega arith) in
      rw (slid_to_moved rounded_to_nearest_fair begin end first last at) (omega (arith, within.0, within.1))

-- how far two differences over one c lie apart
sub_apart : (c a b : ℕ) → nat_abs (sub_ℕ b c -ℤ sub_ℕ a c) ≡ apart a b
sub_apart c a b = go (ltb a b) refl
  where
    go : (t : Bool) → ltb a b ≡ t → nat_abs (sub_ℕ b c -ℤ sub_ℕ a c) ≡ apart a b
    go true t = let h : a < b = ltb-true a b t in sub_rise c a b (omega arith) ∙ omega arith
    go false t = let h : b ≤ a = ltb-false a b t in sub_fall c a b h ∙ omega arith

-- so the two sheets, which move at most one further than each other, stand at most one apart
module _ (sheet other : Sheet) (c b e d w : ℕ) where
  stand_apart : Way (rounded_by sheet) c b e d w → Way (rounded_by other) c b e d w
      → nat_abs (slid (rounded_by sheet) (sub_ℕ b c) (sub_ℕ e c) d w -ℤ slid (rounded_by other) (sub_ℕ b c) (sub_ℕ e c) d w) ≤ 1
  stand_apart (rises m up p l s) (rises n up' q k t) =
      let product = (e - b) * d in
      rw (s, t, sub_apart c (b + n) (b + m)) (omega (arith, sheets_apart product w sheet other, sheets_apart product w other sheet))
  stand_apart (falls m down p l s) (falls n down' q k t) =
      let product = (b - e) * d in
      rw (s, t, sub_apart c (b - n) (b - m)) (omega (arith, sheets_apart product w sheet other, sheets_apart product w other sheet))
  stand_apart (rises m up p l s) (falls n down q k t) = absurd (omega arith)
  stand_apart (falls m down p l s) (rises n up q k t) = absurd (omega arith)

-- the two sheets never differ by more than one
pub differ_by_one_at_most : (sheet other : Sheet) (begin end : ℤ) (first last at : ℕ)
    → nat_abs (slid_to (rounded_by sheet) begin end first last at -ℤ slid_to (rounded_by other) begin end first last at) ≤ 1
unfolding slid_to
differ_by_one_at_most sheet other begin end first last at =
    over_one (λ y z. nat_abs (slid (rounded_by sheet) y z d w -ℤ slid (rounded_by other) y z d w) ≤ 1)
    (λ b e c. stand_apart sheet other c b e d w (way (rounded_by_fair sheet) c b e d w within) (way (rounded_by_fair other) c b e d w within)) begin end
  where
    d : ℕ
    d = nearest first last at - first

    w : ℕ
    w = last - first

    within : d ≤ w
    within = near_le first last at

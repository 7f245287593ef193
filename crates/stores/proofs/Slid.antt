-- Laws of `nearest`, `slid` and `slid_to`, for every fair rounding and all whole numbers: a slider stands between begin and end, at begin
-- at the first edge, at end at the last, and moves one way as the point does.
use mathlib.Core.Path.{◌≡◌, refl, sym, ap, ◌∙◌}
use mathlib.Core.Bool.{Bool, true, false}
use mathlib.Core.Logic.{◌⊎◌, inl, inr}
use Prim.Native.Nat.{ℕ, zero, suc, ◌+◌, ◌-◌, ◌*◌, ◌≤◌, ◌<◌}
use native.Mathlib.Nat.{mul-zero, mul-le-mul_left, eq-zero-or-pos}
use native.Mathlib.Omega.{arith}
use lib.Dec.{ltb, leb}
use lib.IntN.{ℤ, sub_ℕ}
use lib.Signed.{le_z}
use borrow.Author.Tests.{lt-ltb, le-ltb, ltb-true, ltb-false, leb-true, leb-false, le-leb, lt-leb}
use Rattle.stores.specs.Slider.{nearest, Fair, slid, slid_to}
use Rattle.stores.specs.Sheets.{Between, Onward}
use Rattle.stores.proofs.Differences.{sub_le, sub_add, sub_sub, sub_rise, sub_fall, over_one, le_or}

-- where the nearest place is
module _ (first last at : ℕ) where
  pub near_before : at < first → first ≡ nearest first last at
  unfolding nearest
  near_before h = rw (lt-ltb at first h)

  pub near_behind : first ≤ at → last < at → last ≡ nearest first last at
  unfolding nearest
  near_behind h l = rw (le-ltb at first h, lt-ltb last at l)

  pub near_inside : first ≤ at → at ≤ last → at ≡ nearest first last at
  unfolding nearest
  near_inside h l = rw (le-ltb at first h, le-ltb last at l)

-- the three cases of `nearest`
data Near (first last at : ℕ) : Type 0 where
  before : at < first → nearest first last at ≡ first → Near first last at
  behind : first ≤ at → last < at → nearest first last at ≡ last → Near first last at
  inside : first ≤ at → at ≤ last → nearest first last at ≡ at → Near first last at

near : (first last at : ℕ) → Near first last at
near first last at = go (ltb at first) refl (ltb last at) refl
  where
    go : (a : Bool) → ltb at first ≡ a → (b : Bool) → ltb last at ≡ b → Near first last at
    go true p b q = before (ltb-true at first p) (sym (near_before first last at (ltb-true at first p)))
    go false p true q =
        let h : first ≤ at = ltb-false at first p in
        behind h (ltb-true last at q) (sym (near_behind first last at h (ltb-true last at q)))
    go false p false q =
        let h : first ≤ at = ltb-false at first p in
        inside h (ltb-false last at q) (sym (near_inside first last at h (ltb-false last at q)))

module _ (first last at : ℕ) where
  -- the nearest place lies no farther from the first edge than the last does
  pub near_le : nearest first last at - first ≤ last - first
  near_le = go (near first last at)
    where
      go : Near first last at → nearest first last at - first ≤ last - first
      go (before h e) = omega arith
      go (behind h l e) = omega arith
      go (inside h l e) = omega arith

  near_first : at ≤ first → nearest first last at - first ≡ 0
  near_first k = go (near first last at)
    where
      go : Near first last at → nearest first last at - first ≡ 0
      go (before h e) = omega arith
      go (behind h l e) = omega arith
      go (inside h l e) = omega arith

  near_last : first < last → last ≤ at → nearest first last at - first ≡ last - first
  near_last wide k = go (near first last at)
    where
      go : Near first last at → nearest first last at - first ≡ last - first
      go (before h e) = omega arith
      go (behind h l e) = omega arith
      go (inside h l e) = omega arith

near_rising : (first last at at' : ℕ) → at ≤ at' → nearest first last at - first ≤ nearest first last at' - first
near_rising first last at at' on = go (near first last at) (near first last at')
  where
    go : Near first last at → Near first last at' → nearest first last at - first ≤ nearest first last at' - first
    go (before h e) y = omega arith
    go (behind h l e) (before h' e') = omega arith
    go (behind h l e) (behind h' l' e') = omega arith
    go (behind h l e) (inside h' l' e') = omega arith
    go (inside h l e) (before h' e') = omega arith
    go (inside h l e) (behind h' l' e') = omega arith
    go (inside h l e) (inside h' l' e') = omega arith

-- the share of D that is moved at d of w is at most D
pub share_le : {ρ : ℕ → ℕ → ℕ} → Fair ρ → (D d w : ℕ) → d ≤ w → ρ (D * d) w ≤ D
share_le {ρ} fair D d zero h =
    let e : d ≡ 0 = omega arith in
    let n : D * d ≡ 0 = ap (λ (k : ℕ). D * k) e ∙ mul-zero D in
    rw (n, fair.none zero) (omega arith)
share_le {ρ} fair D d (suc w) h =
    let most : ρ (D * d) (suc w) ≤ ρ (D * suc w) (suc w) = fair.rising (D * d) (D * suc w) (suc w) (mul-le-mul_left D h) in
    rw (fair.all D (suc w) (omega arith)) at most

-- over any c
module _ (ρ : ℕ → ℕ → ℕ) (c b e d w : ℕ) where
  pub slid_rise : b ≤ e → slid ρ (sub_ℕ b c) (sub_ℕ e c) d w ≡ sub_ℕ (b + ρ ((e - b) * d) w) c
  unfolding slid
  slid_rise h = rw (sub_le c b e, le-leb b e h, sub_rise c b e h) (sub_add c b (ρ ((e - b) * d) w))

  pub slid_fall : e < b → ρ ((b - e) * d) w ≤ b → slid ρ (sub_ℕ b c) (sub_ℕ e c) d w ≡ sub_ℕ (b - ρ ((b - e) * d) w) c
  unfolding slid
  slid_fall h l =
      let f : e ≤ b = omega arith in
      rw (sub_le c b e, lt-leb b e h, sub_fall c b e f) (sub_sub c b (ρ ((b - e) * d) w) l)

-- which way a slider goes, and how far at d of w
pub data Way (ρ : ℕ → ℕ → ℕ) (c b e d w : ℕ) : Type 0 where
  rises : (m : ℕ) → b ≤ e → m ≡ ρ ((e - b) * d) w → m ≤ e - b → slid ρ (sub_ℕ b c) (sub_ℕ e c) d w ≡ sub_ℕ (b + m) c → Way ρ c b e d w
  falls : (m : ℕ) → e < b → m ≡ ρ ((b - e) * d) w → m ≤ b - e → slid ρ (sub_ℕ b c) (sub_ℕ e c) d w ≡ sub_ℕ (b - m) c → Way ρ c b e d w

pub way : {ρ : ℕ → ℕ → ℕ} → Fair ρ → (c b e d w : ℕ) → d ≤ w → Way ρ c b e d w
way {ρ} fair c b e d w h = go (leb b e) refl
  where
    go : (t : Bool) → leb b e ≡ t → Way ρ c b e d w
    go true t =
        let up : b ≤ e = leb-true b e t in
        rises (ρ ((e - b) * d) w) up refl (share_le fair (e - b) d w h) (slid_rise ρ c b e d w up)
    go false t =
        let down : e < b = leb-false b e t in
        let m : ρ ((b - e) * d) w ≤ b - e = share_le fair (b - e) d w h in
        falls (ρ ((b - e) * d) w) down refl m (slid_fall ρ c b e d w down (omega arith))

-- the theorems, for any fair rounding and all whole numbers begin and end
module _ {ρ : ℕ → ℕ → ℕ} (fair : Fair ρ) (w : ℕ) where
  none_moved : (D m : ℕ) → m ≡ ρ (D * 0) w → m ≡ 0
  none_moved D m p = p ∙ ap (λ (n : ℕ). ρ n w) (mul-zero D) ∙ fair.none w

  -- at the first edge a slider stands at begin
  pub slid_first : (begin end : ℤ) → slid ρ begin end 0 w ≡ begin
  slid_first = over_one (λ y z. slid ρ y z 0 w ≡ y) (λ b e c. go b e c (way fair c b e 0 w (omega arith)))
    where
      go : (b e c : ℕ) → Way ρ c b e 0 w → slid ρ (sub_ℕ b c) (sub_ℕ e c) 0 w ≡ sub_ℕ b c
      go b e c (rises m h p l s) =
          let z : m ≡ 0 = none_moved (e - b) m p in s ∙ ap (λ (n : ℕ). sub_ℕ n c) (omega arith)
      go b e c (falls m h p l s) =
          let z : m ≡ 0 = none_moved (b - e) m p in s ∙ ap (λ (n : ℕ). sub_ℕ n c) (omega arith)

  -- at the last edge it stands at end
  pub slid_last : (begin end : ℤ) → 0 < w → slid ρ begin end w w ≡ end
  slid_last begin end wide =
      over_one (λ y z. slid ρ y z w w ≡ z) (λ b e c. go b e c (way fair c b e w w (omega arith))) begin end
    where
      go : (b e c : ℕ) → Way ρ c b e w w → slid ρ (sub_ℕ b c) (sub_ℕ e c) w w ≡ sub_ℕ e c
      go b e c (rises m h p l s) =
          let z : m ≡ e - b = p ∙ fair.all (e - b) w wide in s ∙ ap (λ (n : ℕ). sub_ℕ n c) (omega arith)
      go b e c (falls m h p l s) =
          let z : m ≡ b - e = p ∙ fair.all (b - e) w wide in s ∙ ap (λ (n : ℕ). sub_ℕ n c) (omega arith)

  module _ (d d' : ℕ) (on : d ≤ d') (within : d' ≤ w) where
    more_moved : (D m m' : ℕ) → m ≡ ρ (D * d) w → m' ≡ ρ (D * d') w → m ≤ m'
    more_moved D m m' p q =
        let h : ρ (D * d) w ≤ ρ (D * d') w = fair.rising (D * d) (D * d') w (mul-le-mul_left D on) in omega arith

    -- as the point moves on, a slider from begin up to end moves up
    pub slid_up : (begin end : ℤ) → le_z begin end ≡ true → le_z (slid ρ begin end d w) (slid ρ begin end d' w) ≡ true
    slid_up = over_one (λ y z. le_z y z ≡ true → le_z (slid ρ y z d w) (slid ρ y z d' w) ≡ true)
        (λ b e c t. go b e c (leb-true b e (sym (sub_le c b e) ∙ t)) (way fair c b e d w (omega arith)) (way fair c b e d' w within))
      where
        go : (b e c : ℕ) → b ≤ e → Way ρ c b e d w → Way ρ c b e d' w
            → le_z (slid ρ (sub_ℕ b c) (sub_ℕ e c) d w) (slid ρ (sub_ℕ b c) (sub_ℕ e c) d' w) ≡ true
        go b e c t (rises m h p l s) (rises m' h' p' l' s') =
            let i : m ≤ m' = more_moved (e - b) m m' p p' in
            rw (s, s', sub_le c (b + m) (b + m')) (le-leb (b + m) (b + m') (omega arith))
        go b e c t (falls m h p l s) y = absurd (omega arith)
        go b e c t (rises m h p l s) (falls m' h' p' l' s') = absurd (omega arith)

    -- and from begin down to end it moves down
    pub slid_down : (begin end : ℤ) → le_z end begin ≡ true → le_z (slid ρ begin end d' w) (slid ρ begin end d w) ≡ true
    slid_down = over_one (λ y z. le_z z y ≡ true → le_z (slid ρ y z d' w) (slid ρ y z d w) ≡ true)
        (λ b e c t. go b e c (leb-true e b (sym (sub_le c e b) ∙ t)) (way fair c b e d w (omega arith)) (way fair c b e d' w within))
      where
        go : (b e c : ℕ) → e ≤ b → Way ρ c b e d w → Way ρ c b e d' w
            → le_z (slid ρ (sub_ℕ b c) (sub_ℕ e c) d' w) (slid ρ (sub_ℕ b c) (sub_ℕ e c) d w) ≡ true
        go b e c t (falls m h p l s) (falls m' h' p' l' s') =
            let i : m ≤ m' = more_moved (b - e) m m' p p' in
            rw (s, s', sub_le c (b - m') (b - m)) (le-leb (b - m') (b - m) (omega arith))
        go b e c t (rises m h p l s) (rises m' h' p' l' s') =
            rw (s, s', sub_le c (b + m') (b + m)) (le-leb (b + m') (b + m) (omega arith))
        go b e c t (falls m h p l s) (rises m' h' p' l' s') = absurd (omega arith)
        go b e c t (rises m h p l s) (falls m' h' p' l' s') = absurd (omega arith)

  -- so it stands between begin and end
  pub slid_between_up : (begin end : ℤ) (d : ℕ) → d ≤ w → le_z begin end ≡ true
      → (le_z begin (slid ρ begin end d w) ≡ true) × (le_z (slid ρ begin end d w) end ≡ true)
  slid_between_up begin end d h t =
      (rw (slid_first begin end) at (slid_up 0 d (omega arith) h begin end t), up_to_end (eq-zero-or-pos w))
    where
      up_to_end : (w ≡ 0) ⊎ (0 < w) → le_z (slid ρ begin end d w) end ≡ true
      up_to_end (inl e) =
          let z : d ≡ 0 = omega arith in
          ap (λ (n : ℕ). le_z (slid ρ begin end n w) end) z ∙ ap (λ (y : ℤ). le_z y end) (slid_first begin end) ∙ t
      up_to_end (inr p) = rw (slid_last begin end p) at (slid_up d w h (omega arith) begin end t)

  pub slid_between_down : (begin end : ℤ) (d : ℕ) → d ≤ w → le_z end begin ≡ true
      → (le_z end (slid ρ begin end d w) ≡ true) × (le_z (slid ρ begin end d w) begin ≡ true)
  slid_between_down begin end d h t =
      (down_to_end (eq-zero-or-pos w), rw (slid_first begin end) at (slid_down 0 d (omega arith) h begin end t))
    where
      down_to_end : (w ≡ 0) ⊎ (0 < w) → le_z end (slid ρ begin end d w) ≡ true
      down_to_end (inl e) =
          let z : d ≡ 0 = omega arith in
          ap (λ (n : ℕ). le_z end (slid ρ begin end n w)) z ∙ ap (le_z end) (slid_first begin end) ∙ t
      down_to_end (inr p) = rw (slid_last begin end p) at (slid_down d w h (omega arith) begin end t)

-- the same of the points of an area along its axis, and of those outside
module _ {ρ : ℕ → ℕ → ℕ} (fair : Fair ρ) (begin end : ℤ) (first last : ℕ) where
  pub slid_to_first : (at : ℕ) → at ≤ first → slid_to ρ begin end first last at ≡ begin
  unfolding slid_to
  slid_to_first at h =
      let e : nearest first last at - first ≡ 0 = near_first first last at h in
      rw e (slid_first fair (last - first) begin end)

  pub slid_to_last : (at : ℕ) → first < last → last ≤ at → slid_to ρ begin end first last at ≡ end
  unfolding slid_to
  slid_to_last at wide h =
      let e : nearest first last at - first ≡ last - first = near_last first last at wide h in
      rw e (slid_last fair (last - first) begin end (omega arith))

  module _ (at at' : ℕ) (on : at ≤ at') where
    pub slid_to_up : le_z begin end ≡ true → le_z (slid_to ρ begin end first last at) (slid_to ρ begin end first last at') ≡ true
    unfolding slid_to
    slid_to_up = slid_up fair (last - first) _ _ (near_rising first last at at' on) (near_le first last at') begin end

    pub slid_to_down : le_z end begin ≡ true → le_z (slid_to ρ begin end first last at') (slid_to ρ begin end first last at) ≡ true
    unfolding slid_to
    slid_to_down = slid_down fair (last - first) _ _ (near_rising first last at at' on) (near_le first last at') begin end

  -- a slider stands between its ends
  pub slid_to_between : (at : ℕ) → Between begin end (slid_to ρ begin end first last at)
  unfolding slid_to
  slid_to_between at = go (le_or begin end)
    where
      go : (le_z begin end ≡ true) ⊎ (le_z end begin ≡ true) → Between begin end (slid ρ begin end (nearest first last at - first) (last - first))
      go (inl h) = inl (slid_between_up fair (last - first) begin end (nearest first last at - first) (near_le first last at) h)
      go (inr h) = inr (slid_between_down fair (last - first) begin end (nearest first last at - first) (near_le first last at) h)

  -- and never turns back as the point moves on
  pub slid_to_onward : (at at' : ℕ) → at ≤ at' → Onward begin end (slid_to ρ begin end first last at) (slid_to ρ begin end first last at')
  slid_to_onward at at' on = (slid_to_up at at' on, slid_to_down at at' on)

-- Laws of the roundings: both sheets' are fair; the revised one's answer is the nearest number and no other is; the two answers lie at most one apart.
use mathlib.Core.Path.{◌≡◌, refl}
use mathlib.Core.Bool.{Bool, true, false}
use mathlib.Core.Logic.{◌⊎◌, inl, inr, ◌↔◌}
use Prim.Native.Nat.{ℕ, zero, suc, ◌+◌, ◌*◌, ◌/◌, ◌≤◌, ◌<◌}
use native.Mathlib.Nat.{mul_left_comm, add-mul, mul-le-mul_right, mul-div_cancel, zero-div, div-zero, div-eq_of_lt-le, div-mul-le_self, lt-div-mul-add, le-div_iff_mul-le, le_trans, le_refl, le_antisymm, eq-zero-or-pos}
use native.Mathlib.Omega.{arith}
use lib.Dec.{ltb}
use borrow.Author.Tests.{ltb-true, ltb-false}
use Rattle.stores.specs.declared.Sheet.{Sheet}
use Rattle.stores.specs.declared.Sheet.TheVariants.{Old, Revised}
use Rattle.stores.specs.Slider.{rounded_down, rounded_to_nearest, rounded_by, Fair}
use Rattle.stores.specs.Sheets.{apart, Nearest}

div_rising : (m n w : ℕ) → m ≤ n → m / w ≤ n / w
div_rising m n zero h = rw (div-zero m, div-zero n) (le_refl 0)
div_rising m n (suc w) h =
    (le-div_iff_mul-le {k = suc w} {x = m / suc w} {y = n} (omega arith)).1 (le_trans (div-mul-le_self m (suc w)) h)

pub rounded_down_fair : Fair rounded_down
unfolding rounded_down
rounded_down_fair = record { none = zero-div; all = λ n w h. mul-div_cancel n h; rising = div_rising }

-- w = 0, which no good record has
pub down_of_none : (product w : ℕ) → w ≡ 0 → rounded_down product w ≡ 0
unfolding rounded_down
down_of_none product w e = rw e (div-zero product)

pub nearest_of_none : (product w : ℕ) → w ≡ 0 → rounded_to_nearest product w ≡ 0
unfolding rounded_to_nearest
nearest_of_none product w e = rw e (div-zero (2 * product + 0))

module _ (product w : ℕ) (some : 0 < w) where
  -- the number r for which 2·r·w ≤ 2·product + w < 2·r·w + 2·w, and no other
  pub nearest_is : (r : ℕ) → 2 * (r * w) ≤ 2 * product + w → 2 * product < 2 * (r * w) + w → rounded_to_nearest product w ≡ r
  unfolding rounded_to_nearest
  nearest_is r p q =
      let twice : r * (2 * w) ≡ 2 * (r * w) = mul_left_comm r 2 w in
      let more : (r + 1) * (2 * w) ≡ r * (2 * w) + 1 * (2 * w) = add-mul r 1 (2 * w) in
      div-eq_of_lt-le (2 * w) (omega arith) (omega arith)

  -- never further than half a unit from product / w, and below it by less than that
  pub nearest_within : (2 * (rounded_to_nearest product w * w) ≤ 2 * product + w) × (2 * product < 2 * (rounded_to_nearest product w * w) + w)
  unfolding rounded_to_nearest
  nearest_within =
      let r = (2 * product + w) / (2 * w) in
      let twice : r * (2 * w) ≡ 2 * (r * w) = mul_left_comm r 2 w in
      let low : r * (2 * w) ≤ 2 * product + w = div-mul-le_self (2 * product + w) (2 * w) in
      let high : 2 * product + w < r * (2 * w) + 2 * w = lt-div-mul-add (omega arith) in
      (omega arith, omega arith)

  -- the old sheet's, in the same words
  pub down_within : (rounded_down product w * w ≤ product) × (product < rounded_down product w * w + w)
  unfolding rounded_down
  down_within = (div-mul-le_self product w, lt-div-mul-add some)

nearest_rising : (m n w : ℕ) → m ≤ n → rounded_to_nearest m w ≤ rounded_to_nearest n w
unfolding rounded_to_nearest
nearest_rising m n w h = div_rising (2 * m + w) (2 * n + w) (2 * w) (omega arith)

pub rounded_to_nearest_fair : Fair rounded_to_nearest
rounded_to_nearest_fair =
    record {
      none = λ w. none w (eq-zero-or-pos w);
      all = λ n w some. nearest_is (n * w) w some n (omega arith) (omega arith);
      rising = nearest_rising;
    }
  where
    none : (w : ℕ) → (w ≡ 0) ⊎ (0 < w) → rounded_to_nearest 0 w ≡ 0
    none w (inl e) = nearest_of_none 0 w e
    none w (inr some) = nearest_is 0 w some 0 (omega arith) (omega arith)

-- whichever sheet
pub rounded_by_fair : (sheet : Sheet) → Fair (rounded_by sheet)
unfolding rounded_by
rounded_by_fair Old = rounded_down_fair
rounded_by_fair Revised = rounded_to_nearest_fair

-- two numbers, each taken w times
data Order (m n w : ℕ) : Type 0 where
  same : m ≡ n → Order m n w
  less : m < n → m * w + w ≤ n * w → Order m n w
  more : n < m → n * w + w ≤ m * w → Order m n w

order : (m n w : ℕ) → Order m n w
order m n w = go (ltb m n) refl (ltb n m) refl
  where
    onward : (a b : ℕ) → a < b → a * w + w ≤ b * w
    onward a b h =
        let one : (a + 1) * w ≡ a * w + 1 * w = add-mul a 1 w in
        let i : (a + 1) * w ≤ b * w = mul-le-mul_right w (omega arith) in
        omega arith

    go : (p : Bool) → ltb m n ≡ p → (q : Bool) → ltb n m ≡ q → Order m n w
    go true p q e = let h : m < n = ltb-true m n p in less h (onward m n h)
    go false p true e = let h : n < m = ltb-true n m e in more h (onward n m h)
    go false p false e =
        let h : n ≤ m = ltb-false m n p in
        let i : m ≤ n = ltb-false n m e in
        same (omega arith)

-- "to the nearest number, halves towards the end value": the formula's answer is so, and no other number
module _ (product w : ℕ) (some : 0 < w) where
  pub rounded_to_nearest_is : Nearest product w (rounded_to_nearest product w)
  rounded_to_nearest_is =
      record { none_nearer = λ n. nearer n (order n r w); greater_of_two = λ n e. greater n e (order n r w) }
    where
      r : ℕ
      r = rounded_to_nearest product w

      nearer : (n : ℕ) → Order n r w → apart (r * w) product ≤ apart (n * w) product
      nearer n (same e) = rw e (le_refl (apart (r * w) product))
      nearer n (less h i) = omega (arith, (nearest_within product w some).0)
      nearer n (more h i) = omega (arith, (nearest_within product w some).1)

      greater : (n : ℕ) → apart (n * w) product ≡ apart (r * w) product → Order n r w → n ≤ r
      greater n e (same h) = omega arith
      greater n e (less h i) = omega arith
      greater n e (more h i) = absurd (omega (arith, (nearest_within product w some).1))

  pub nearest_exactly : (r : ℕ) → Nearest product w r ↔ (r ≡ rounded_to_nearest product w)
  nearest_exactly r = (only, λ e. rw e rounded_to_nearest_is)
    where
      only : Nearest product w r → r ≡ rounded_to_nearest product w
      only near =
          let ours = rounded_to_nearest_is in
          let one = ours.none_nearer r in
          let other = near.none_nearer (rounded_to_nearest product w) in
          le_antisymm (ours.greater_of_two r (omega arith)) (near.greater_of_two (rounded_to_nearest product w) (omega arith))

-- the two sheets' answers: the revised one's is the old one's or one more
module _ (product w : ℕ) where
  one_or_other : (w ≡ 0) ⊎ (0 < w) → (rounded_down product w ≤ rounded_to_nearest product w) × (rounded_to_nearest product w ≤ rounded_down product w + 1)
  one_or_other (inl e) =
      let none : rounded_down product w ≡ 0 = down_of_none product w e in
      let nor : rounded_to_nearest product w ≡ 0 = nearest_of_none product w e in
      (omega arith, omega arith)
  one_or_other (inr some) = (below (order q r w), above (order r (q + 1) w))
    where
      q : ℕ
      q = rounded_down product w

      r : ℕ
      r = rounded_to_nearest product w

      below : Order q r w → q ≤ r
      below (same e) = omega arith
      below (less h i) = omega arith
      below (more h i) = absurd (omega (arith, (nearest_within product w some).1, (down_within product w some).0))

      above : Order r (q + 1) w → r ≤ q + 1
      above (same e) = omega arith
      above (less h i) = omega arith
      above (more h i) =
          let one : (q + 1) * w ≡ q * w + 1 * w = add-mul q 1 w in
          absurd (omega (arith, (nearest_within product w some).0, (down_within product w some).1))

  pub down_or_one_more : (rounded_down product w ≤ rounded_to_nearest product w) × (rounded_to_nearest product w ≤ rounded_down product w + 1)
  down_or_one_more = one_or_other (eq-zero-or-pos w)

  pub sheets_apart : (sheet other : Sheet) → rounded_by sheet product w ≤ rounded_by other product w + 1
  unfolding rounded_by
  sheets_apart Old Old = omega arith
  sheets_apart Old Revised = omega (arith, down_or_one_more.0)
  sheets_apart Revised Old = down_or_one_more.1
  sheets_apart Revised Revised = omega arith

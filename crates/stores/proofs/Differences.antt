-- Whole numbers as differences n − c of two natural numbers: sums, differences and comparisons over one c are those of the n's.
use mathlib.Core.Path.{◌≡◌, refl, sym, ap, ◌∙◌}
use mathlib.Core.Bool.{Bool, true, false}
use mathlib.Core.Logic.{◌⊎◌, inl, inr}
use Prim.Native.Nat.{ℕ, zero, suc, ◌+◌, ◌-◌, ◌≤◌, ◌<◌}
use native.Mathlib.Nat.{lt_of_not-le, not-le_of_lt}
use native.Mathlib.Omega.{arith}
use lib.Dec.{ltb, leb}
use lib.IntN.{ℤ, pos, negsuc, neg_ℤ, nat_abs, sub_ℕ, ◌+ℤ◌, ◌-ℤ◌, +ℤ_comm, +ℤ-neg_ℤ_cancel}
use lib.Signed.{le_z, lt_z}
use borrow.Author.Tests.{ltb-true, ltb-false, leb-true, leb-false, lt-ltb, le-ltb, le-leb, lt-leb}

pub sub_below : (a c k : ℕ) → a + suc k ≡ c → sub_ℕ a c ≡ negsuc k
sub_below a c k e =
    let h : a < c = omega arith in
    let i : c - suc a ≡ k = omega arith in
    rw (lt-ltb a c h, i)

pub sub_above : (a c k : ℕ) → a ≡ c + k → sub_ℕ a c ≡ pos k
sub_above a c k e =
    let h : c ≤ a = omega arith in
    let i : a - c ≡ k = omega arith in
    rw (le-ltb a c h, i)

-- a difference is negative, or it is not
pub data Side (c n : ℕ) : Type 0 where
  under : (k : ℕ) → n + suc k ≡ c → sub_ℕ n c ≡ negsuc k → Side c n
  over : (k : ℕ) → n ≡ c + k → sub_ℕ n c ≡ pos k → Side c n

pub side : (c n : ℕ) → Side c n
side c n = go (ltb n c) refl
  where
    go : (t : Bool) → ltb n c ≡ t → Side c n
    go true t =
        let h : n < c = ltb-true n c t in
        let e : n + suc (c - suc n) ≡ c = omega arith in
        under (c - suc n) e (sub_below n c (c - suc n) e)
    go false t =
        let h : c ≤ n = ltb-false n c t in
        let e : n ≡ c + (n - c) = omega arith in
        over (n - c) e (sub_above n c (n - c) e)

leb_same : (a b c d : ℕ) → (a ≤ b → c ≤ d) → (c ≤ d → a ≤ b) → leb a b ≡ leb c d
leb_same a b c d f g = go (leb c d) refl
  where
    go : (t : Bool) → leb c d ≡ t → leb a b ≡ leb c d
    go true t = rw t (le-leb a b (g (leb-true c d t)))
    go false t = rw t (lt-leb a b (lt_of_not-le (λ h. not-le_of_lt (leb-false c d t) (f h))))

nat_abs_neg : (n : ℕ) → nat_abs (neg_ℤ (pos n)) ≡ n
nat_abs_neg zero = refl
nat_abs_neg (suc n) = refl

module _ (c : ℕ) where
  pub sub_le : (a b : ℕ) → le_z (sub_ℕ a c) (sub_ℕ b c) ≡ leb a b
  sub_le a b = go (side c a) (side c b)
    where
      go : Side c a → Side c b → le_z (sub_ℕ a c) (sub_ℕ b c) ≡ leb a b
      go (under k e p) (under l f q) = rw (p, q) (leb_same l k a b (λ h. omega arith) (λ h. omega arith))
      go (under k e p) (over l f q) = rw (p, q) (sym (le-leb a b (omega arith)))
      go (over k e p) (under l f q) = rw (p, q) (sym (lt-leb a b (omega arith)))
      go (over k e p) (over l f q) = rw (p, q) (leb_same k l a b (λ h. omega arith) (λ h. omega arith))

  pub sub_lt : (a b : ℕ) → lt_z (sub_ℕ a c) (sub_ℕ b c) ≡ ltb a b
  sub_lt a b = go (side c a) (side c b)
    where
      go : Side c a → Side c b → lt_z (sub_ℕ a c) (sub_ℕ b c) ≡ ltb a b
      go (under k e p) (under l f q) = rw (p, q) (leb_same (suc l) k (suc a) b (λ h. omega arith) (λ h. omega arith))
      go (under k e p) (over l f q) = rw (p, q) (sym (lt-ltb a b (omega arith)))
      go (over k e p) (under l f q) = rw (p, q) (sym (le-ltb a b (omega arith)))
      go (over k e p) (over l f q) = rw (p, q) (leb_same (suc k) l (suc a) b (λ h. omega arith) (λ h. omega arith))

  pub sub_add : (a n : ℕ) → sub_ℕ a c +ℤ pos n ≡ sub_ℕ (a + n) c
  sub_add a n = go (side c a) (side c (a + n))
    where
      go : Side c a → Side c (a + n) → sub_ℕ a c +ℤ pos n ≡ sub_ℕ (a + n) c
      go (under k e p) (under l f q) = rw (p, q) (sub_below n (suc k) l (omega arith))
      go (under k e p) (over l f q) = rw (p, q) (sub_above n (suc k) l (omega arith))
      go (over k e p) (under l f q) = absurd (omega arith)
      go (over k e p) (over l f q) = rw (p, q) (ap pos (omega arith))

  pub sub_sub : (a n : ℕ) → n ≤ a → sub_ℕ a c -ℤ pos n ≡ sub_ℕ (a - n) c
  sub_sub a n h =
      let e : a - n + n ≡ a = omega arith in
      let s : sub_ℕ (a - n) c +ℤ pos n ≡ sub_ℕ a c = sub_add (a - n) n ∙ ap (λ (k : ℕ). sub_ℕ k c) e in
      ap (λ (z : ℤ). z -ℤ pos n) (sym s) ∙ +ℤ-neg_ℤ_cancel (sub_ℕ (a - n) c) (pos n)

  -- |b − a|, rising and falling
  pub sub_rise : (a b : ℕ) → a ≤ b → nat_abs (sub_ℕ b c -ℤ sub_ℕ a c) ≡ b - a
  sub_rise a b h =
      let e : a + (b - a) ≡ b = omega arith in
      let s : pos (b - a) +ℤ sub_ℕ a c ≡ sub_ℕ b c =
      +ℤ_comm (pos (b - a)) (sub_ℕ a c) ∙ sub_add a (b - a) ∙ ap (λ (k : ℕ). sub_ℕ k c) e
      in
      ap (λ (z : ℤ). nat_abs (z -ℤ sub_ℕ a c)) (sym s) ∙ ap nat_abs (+ℤ-neg_ℤ_cancel (pos (b - a)) (sub_ℕ a c))

  pub sub_fall : (a b : ℕ) → b ≤ a → nat_abs (sub_ℕ b c -ℤ sub_ℕ a c) ≡ a - b
  sub_fall a b h =
      let e : a - (a - b) ≡ b = omega arith in
      let l : a - b ≤ a = omega arith in
      let s : neg_ℤ (pos (a - b)) +ℤ sub_ℕ a c ≡ sub_ℕ b c =
      +ℤ_comm (neg_ℤ (pos (a - b))) (sub_ℕ a c) ∙ sub_sub a (a - b) l ∙ ap (λ (k : ℕ). sub_ℕ k c) e
      in
      ap (λ (z : ℤ). nat_abs (z -ℤ sub_ℕ a c)) (sym s) ∙ ap nat_abs (+ℤ-neg_ℤ_cancel (neg_ℤ (pos (a - b))) (sub_ℕ a c)) ∙ nat_abs_neg (a - b)

-- what holds of any two differences over one c holds of any two whole numbers
pub over_one : (P : ℤ → ℤ → Type 0) → ((a b c : ℕ) → P (sub_ℕ a c) (sub_ℕ b c)) → (y z : ℤ) → P y z
over_one P h (pos m) (pos n) = rw (sub_above m 0 m (omega arith), sub_above n 0 n (omega arith)) at (h m n 0)
over_one P h (pos m) (negsuc n) =
    rw (sub_above (suc n + m) (suc n) m refl, sub_below 0 (suc n) n (omega arith)) at (h (suc n + m) 0 (suc n))
over_one P h (negsuc m) (pos n) =
    rw (sub_below 0 (suc m) m (omega arith), sub_above (suc m + n) (suc m) n refl) at (h 0 (suc m + n) (suc m))
over_one P h (negsuc m) (negsuc n) =
    let c = suc m + suc n in
    rw (sub_below (suc n) c m (omega arith), sub_below (suc m) c n (omega arith)) at (h (suc n) (suc m) c)

-- of any two whole numbers one is at most the other
pub le_or : (y z : ℤ) → (le_z y z ≡ true) ⊎ (le_z z y ≡ true)
le_or = over_one (λ y z. (le_z y z ≡ true) ⊎ (le_z z y ≡ true)) (λ a b c. go a b c (leb a b) refl)
  where
    go : (a b c : ℕ) (t : Bool) → leb a b ≡ t → (le_z (sub_ℕ a c) (sub_ℕ b c) ≡ true) ⊎ (le_z (sub_ℕ b c) (sub_ℕ a c) ≡ true)
    go a b c true t = inl (sub_le c a b ∙ t)
    go a b c false t =
        let h : b < a = leb-false a b t in inr (sub_le c b a ∙ le-leb b a (omega arith))

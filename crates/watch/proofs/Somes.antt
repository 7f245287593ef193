-- Laws of `some_below`: a test that a number below n passes, or none.
use mathlib.Core.Path.{◌≡◌, refl, sym, ap, ◌∙◌}
use mathlib.Core.Bool.{Bool, true, false, ◌||◌}
use mathlib.Core.Logic.{⊎_elim}
use Prim.Native.Nat.{ℕ, zero, suc, ◌+◌, ◌<◌}
use native.Mathlib.Omega.{arith}
use native.Mathlib.Numerals.{add-one, unary_clauses}
use Rattle.std.proofs.Math.Bool.{or_assoc, or-false}
use Rattle.std.specs.List.{list_any, range_with_len}
use Rattle.wire.proofs.Truths.{never}
use Rattle.watch.specs.Judge.{some_below}
use Rattle.watch.proofs.Places.{last_or_before}

-- the numbers below n, gone through in their order
module _ (test : ℕ → Bool) where
  some_from : (a n : ℕ) → (some_below test a || list_any test (range_with_len a n)) ≡ some_below test (a + n)
  unfolding some_below
  some_from a zero = simp unary_clauses (or-false (some_below test a))
  some_from a (suc n) =
      let next : a + suc n ≡ a + 1 + n = omega arith in
      let grown : some_below test (a + 1) ≡ some_below test a || test a = rw (add-one a) refl in
      rw next (sym (or_assoc (some_below test a) (test a) (list_any test (range_with_len (a + 1) n))) ∙ rw (← grown) (some_from (a + 1) n))

  pub some_in_range : (n : ℕ) → list_any test (range_with_len 0 n) ≡ some_below test n
  unfolding some_below
  some_in_range n =
      let all : 0 + n ≡ n = omega arith in
      rw all at (some_from 0 n)

or_true : (a b : Bool) → b ≡ true → (a || b) ≡ true
or_true true b is = refl
or_true false b is = is

module _ (test : ℕ → Bool) where
  some_passes : (n i : ℕ) → i < n → test i ≡ true → some_below test n ≡ true
  unfolding some_below
  some_passes zero i below is = absurd (omega arith)
  some_passes (suc n) i below is =
      ⊎_elim
      (λ same. or_true (some_below test n) (test n) (rw same at is))
      (λ before. ap (λ (b : Bool). b || test n) (some_passes n i before is))
      (last_or_before i n below)

  pub none_passes : (n i : ℕ) → some_below test n ≡ false → i < n → test i ≡ false
  none_passes n i none below = go (test i) refl
    where
      go : (b : Bool) → test i ≡ b → b ≡ false
      go true is = never (cc (some_passes n i below is))
      go false is = refl

-- A law of every number below a bound, by a test that is computed.
use mathlib.Core.Path.{◌≡◌, refl, ap, ◌∙◌}
use mathlib.Core.Bool.{Bool, true, false, ◌&&◌}
use Prim.Native.Nat.{ℕ, zero, suc, ◌<◌}
use native.Mathlib.Omega.{arith}
use borrow.Author.Tests.{eqb-true, eqb-false}
use lib.Dec.{eqb}
use Rattle.wire.proofs.Truths.{and_left, and_right}

-- every number below n passes the test
unfoldable pub all_below : (n : ℕ) → (ℕ → Bool) → Bool
all_below zero test = true
all_below (suc n) test = test n && all_below n test

pub below_passes : (n : ℕ) (test : ℕ → Bool) → all_below n test ≡ true → (k : ℕ) → k < n → test k ≡ true
unfolding all_below
below_passes zero test all k below = absurd (omega arith)
below_passes (suc n) test all k below = go (eqb k n) refl (below_passes n test (and_right (test n) (all_below n test) all) k)
  where
    go : (b : Bool) → eqb k n ≡ b → (k < n → test k ≡ true) → test k ≡ true
    go true is later = ap test (eqb-true k n is) ∙ and_left (test n) (all_below n test) all
    go false is later = later (omega (arith, eqb-false k n is))

-- Two places of a list are one, or they are not.
use mathlib.Core.Path.{◌≡◌, refl}
use mathlib.Core.Bool.{Bool, true, false}
use mathlib.Core.Logic.{◌⊎◌, ◌≢◌, inl, inr, ⊎_elim}
use Prim.Native.Nat.{ℕ, suc, ◌<◌}
use native.Mathlib.Omega.{arith}
use borrow.Author.Tests.{eqb-true, eqb-false}
use lib.Dec.{eqb}

pub one_or_two : (i k : ℕ) → (i ≡ k) ⊎ (i ≢ k)
one_or_two i k = go (eqb i k) refl
  where
    go : (b : Bool) → eqb i k ≡ b → (i ≡ k) ⊎ (i ≢ k)
    go true is = inl (eqb-true i k is)
    go false is = inr (eqb-false i k is)

pub last_or_before : (i k : ℕ) → i < suc k → (i ≡ k) ⊎ (i < k)
last_or_before i k below = ⊎_elim (λ same. inl same) (λ other. inr (omega (arith, other))) (one_or_two i k)

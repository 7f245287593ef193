-- Laws of `fenced`: what a step stores lies within its ends, whatever the old value was.
use mathlib.Core.Path.{◌≡◌, refl}
use mathlib.Core.Bool.{Bool, true, false, ◌&&◌, cond}
use native.Mathlib.Nat.{le_refl}
use lib.IntN.{ℤ, pos, negsuc}
use lib.Signed.{le_z, lt_z}
use borrow.Author.Tests.{le-leb}
use Rattle.wire.proofs.Truths.{and_left, and_right}
use Rattle.stores.specs.Step.{fenced}

le_self : (z : ℤ) → le_z z z ≡ true
le_self (pos n) = le-leb n n (le_refl n)
le_self (negsuc n) = le-leb n n (le_refl n)

-- "If t is within the ends, store t. Otherwise ..": the least, the greatest or a number between them
pub fenced_within : (up round : Bool) (least greatest t : ℤ) → le_z least greatest ≡ true
    → (le_z least (fenced up round least greatest t) ≡ true) × (le_z (fenced up round least greatest t) greatest ≡ true)
unfolding fenced
fenced_within up round least greatest t ends = go (le_z least t && le_z t greatest) refl up round (lt_z t least)
  where
    inside : ℤ → Type 0
    inside z = (le_z least z ≡ true) × (le_z z greatest ≡ true)

    lowest : inside least
    lowest = (le_self least, ends)

    highest : inside greatest
    highest = (ends, le_self greatest)

    go : (b : Bool) → (le_z least t && le_z t greatest) ≡ b → (u r l : Bool)
        → inside (cond b t (cond r (cond u least greatest) (cond l least greatest)))
    go true e u r l = (and_left (le_z least t) (le_z t greatest) e, and_right (le_z least t) (le_z t greatest) e)
    go false e true true l = lowest
    go false e false true l = highest
    go false e u false true = lowest
    go false e u false false = highest

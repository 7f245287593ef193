-- Laws of `in_run`: which words lie in a run.
use mathlib.Core.Path.{◌≡◌}
use mathlib.Core.Bool.{true}
use Prim.Native.Nat.{ℕ, ◌+◌, ◌≤◌, ◌<◌}
use borrow.Author.Tests.{ltb-true, leb-true, lt-ltb, le-leb}
use lib.Dec.{leb, ltb}
use Rattle.wire.proofs.Truths.{and_left, and_right}
use Rattle.watch.specs.Noting.{in_run}

module _ (first n address : ℕ) where
  pub in_run_lem : in_run first n address ≡ true → (first ≤ address) × (address < first + n)
  unfolding in_run
  in_run_lem is = (
    leb-true first address (and_left (leb first address) (ltb address (first + n)) is),
    ltb-true address (first + n) (and_right (leb first address) (ltb address (first + n)) is),
  )

  pub run_in : first ≤ address → address < first + n → in_run first n address ≡ true
  unfolding in_run
  run_in begun before = rw (le-leb first address begun, lt-ltb address (first + n) before)

-- Laws of `used_at`: an entry in use stands in the list.
use mathlib.Core.Path.{◌≡◌, sym}
use mathlib.Core.Bool.{true}
use mathlib.Core.List.{List}
use Prim.Native.Nat.{ℕ, ◌≤◌, ◌<◌}
use native.Mathlib.Omega.{arith}
use borrow.Author.Tests.{eqb-false, not-true}
use lib.Dec.{eqb}
use lib.ListN.{length, get_or}
use Rattle.wire.proofs.PastEnd.{byte_past_end}
use Rattle.watch.specs.Watched.{used_at}

pub used_inside : (uses : List ℕ) (i : ℕ) → used_at uses i ≡ true → i < length uses
unfolding used_at
used_inside uses i used =
    let not-0 = eqb-false (get_or uses i 0) 0 (not-true (eqb (get_or uses i 0) 0) used) in
    let not_past : (length uses ≤ i) → ⊥ = λ past. not-0 (sym (byte_past_end uses i past)) in
    omega (arith, not_past)

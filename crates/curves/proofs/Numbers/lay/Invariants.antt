-- `curves::Numbers::lay` meets its contract.
use Prim.Native.Nat.{ℕ, ◌+◌, ◌<◌}
use mathlib.Core.Path.{◌≡◌}
use lib.ListN.{get_or}
use Rattle.curves.specs.Inner.{column}
use Rattle.curves.proofs.Numbers.lay.Given as goal

abbrev pub invariant-loop-i : goal.invariant-loop-i
invariant-loop-i l = (k : ℕ) → k < l.i → get_or l.run k 0 ≡ get_or (column l.self l.place) (l.first + k) 0

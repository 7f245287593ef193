-- `words::store_run` meets its contract.
use Prim.Native.Nat.{ℕ, ◌<◌}
use mathlib.Core.Path.{◌≡◌}
use lib.ListN.{get_or}
use Rattle.words.specs.Words.{words_of}
use Rattle.words.proofs.store_run.Given as goal

abbrev pub invariant-loop-i : goal.invariant-loop-i
invariant-loop-i l = (k : ℕ) → k < l.i → get_or l.run k 0 ≡ get_or (words_of l.bytes) k 0

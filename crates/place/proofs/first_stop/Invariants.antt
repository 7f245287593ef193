-- `place::first_stop` meets its contract. The loop's invariant: what is passed over is what has been, and what is still to be.
use Prim.Native.Nat.{◌+◌}
use mathlib.Core.Path.{◌≡◌}
use lib.ListN.{drop}
use Rattle.reading.specs.Moves.{passes}
use Rattle.place.specs.Looks.{rules_of}
use Rattle.place.proofs.first_stop.Given as goal

abbrev pub invariant-loop-at : goal.invariant-loop-at
invariant-loop-at l = passes (rules_of l.header l.checking) l.closed l.s ≡ l.at + passes (rules_of l.header l.checking) l.closed (drop l.at l.s)

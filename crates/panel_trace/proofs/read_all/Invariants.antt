-- `panel_trace::read_all` meets its contract, and ends by a count of turns, since nothing says that an input ends.
use Prim.Native.Nat.{◌≤◌}
use lib.ListN.{length}
use Rattle.telling.specs.Memory.{remembering}
use Rattle.telling.specs.Told.{least_text}
use Rattle.trace.specs.State.{holds}
use Rattle.printing.specs.Reached.{HeldSound}
use Rattle.panel_trace.specs.Program.{ReadSoFar}
use Rattle.panel_trace.proofs.read_all.Given as goal

abbrev pub invariant-loop : goal.invariant-loop
invariant-loop g l =
    HeldSound (holds l.trace l.table (remembering l.words l.curves)) × ReadSoFar (holds l.trace l.table (remembering l.words l.curves)) × (least_text ≤ length l.room)

-- `panel_trace::feeding::feed` meets its contract, and ends by what is left of the input.
use Prim.Native.Nat.{◌≤◌}
use lib.ListN.{length, drop}
use Rattle.telling.specs.Memory.{remembering}
use Rattle.telling.specs.Told.{least_text}
use Rattle.trace.specs.State.{holds}
use Rattle.panel_trace.specs.Inner.{calls_left}
use Rattle.panel_trace.proofs.Passes.{Passes}
use Rattle.panel_trace.proofs.feeding.feed.Given as goal

abbrev pub invariant-loop-at : goal.invariant-loop-at
invariant-loop-at g l =
    Passes (holds l.initial.trace l.initial.table (remembering l.initial.words l.initial.curves)) l.input (holds l.trace l.table (remembering l.words l.curves)) l.at
    × (least_text ≤ length l.room) × (l.at ≤ length l.input)

abbrev pub decreases-loop-at : goal.decreases-loop-at
decreases-loop-at g l = calls_left (holds l.trace l.table (remembering l.words l.curves)) (drop l.at l.input)

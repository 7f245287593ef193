-- `panel_trace::feeding::fill` meets its contract, and ends by what is left of the input.
use Prim.Native.Nat.{◌≤◌}
use lib.ListN.{length, drop}
use Rattle.telling.specs.Memory.{remembering}
use Rattle.telling.specs.Told.{least_text}
use Rattle.trace.specs.State.{holds}
use Rattle.panel_trace.specs.Inner.{calls_left}
use Rattle.panel_trace.proofs.Going.{Going}
use Rattle.panel_trace.proofs.feeding.fill.Given as goal

abbrev pub invariant-loop-room : goal.invariant-loop-room
invariant-loop-room l =
    Going (holds l.initial.now l.initial.table (remembering l.initial.words l.initial.curves)) l.input (holds l.now l.table (remembering l.words l.curves)) l.at l.filled l.room
    × (least_text ≤ length l.room) × (l.at ≤ length l.input) × (l.filled ≤ length l.room)

abbrev pub decreases-loop-room : goal.decreases-loop-room
decreases-loop-room l = calls_left (holds l.now l.table (remembering l.words l.curves)) (drop l.at l.input)

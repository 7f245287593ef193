-- `text::put_spaced` meets its contract.
use mathlib.Core.Path.{◌≡◌}
use lib.ListN.{take}
use Rattle.wire.specs.Room.{over}
use Rattle.text.specs.Text.{spaced}
use Rattle.text.proofs.put_spaced.Given as goal

abbrev pub invariant-loop-i : goal.invariant-loop-i
invariant-loop-i l = l.room ≡ over (spaced (take l.i l.frame)) l.initial.room

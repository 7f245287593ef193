-- `words::lay_run` meets its contract.
use mathlib.Core.Path.{◌≡◌}
use lib.ListN.{take}
use Rattle.wire.specs.Room.{over}
use Rattle.words.specs.Words.{bytes_of}
use Rattle.words.proofs.lay_run.Given as goal

abbrev pub invariant-loop-i : goal.invariant-loop-i
invariant-loop-i l = l.room ≡ over (bytes_of (take l.i l.run)) l.initial.room

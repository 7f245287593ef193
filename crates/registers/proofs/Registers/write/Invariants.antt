-- `registers::Registers::write` meets its contract.
use mathlib.Core.Path.{◌≡◌}
use lib.Seq.{paste}
use Rattle.registers.specs.Run.{reads_as}
use Rattle.registers.proofs.Registers.write.Given as goal

abbrev pub invariant-loop-i : goal.invariant-loop-i
invariant-loop-i l = l.self.bytes ≡ paste l.initial.self.bytes l.first (reads_as l.first l.bytes) l.i

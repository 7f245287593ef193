-- The clock's registers, seen as what shows a moment.
use mathlib.Core.Path.{◌≡◌}
use Prim.Native.Nat.{◌-◌}
use lib.ListN.{length, take, drop}
use lib.Seq.{get_or-drop}
use Rattle.wire.proofs.Parts.{part_whole}
use Rattle.clock.specs.Shown.{moment_in}
use Rattle.registers.specs.declared.Registers.{Registers}
use Rattle.registers.specs.Table.{register_at}
use Rattle.registers.specs.Clocked.{moment_of}

-- from the year on they are the bytes of one
pub moment_seen : (registers : Registers) → moment_in (take (length registers.bytes - 0x20) (drop 0x20 registers.bytes)) ≡ moment_of registers
unfolding moment_in moment_of register_at
moment_seen registers = rw (part_whole registers.bytes 0x20) (simp get_or-drop)

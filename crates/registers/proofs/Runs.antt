-- Laws of what the code writes of a run, and of the registers at the start.
use mathlib.Core.Path.{◌≡◌, refl}
use mathlib.Core.Bool.{Bool, cond}
use Rattle.std.specs.List.{list_all, range_with_len}
use Prim.Native.Nat.{ℕ, zero, suc, ◌+◌}
use native.Mathlib.Omega.{arith}
use lib.ListN.{set, replicate}
use Rattle.wire.specs.Addresses.{register_count}
use Rattle.wire.specs.Room.{laid_at}
use Rattle.registers.specs.declared.Registers.{Registers}
use Rattle.registers.specs.Table.{holding, start_rows, with_rows, start_registers, writable}
use Rattle.registers.specs.Run.{all_writable}

-- each register of a run is writable where each number from its address on is
pub all_of_run : (address n : ℕ) → list_all writable (range_with_len address n) ≡ all_writable address n
unfolding all_writable
all_of_run address zero = refl
all_of_run address (suc n) =
    let next : address + 1 ≡ suc address = omega arith in
    rw (next, all_of_run (suc address) n)

-- the registers of 01's table, laid store by store
pub started : (h1 h2 v w : ℕ) (checking acknowledging : Bool) → v ≡ cond checking 0x10 0x00 → w ≡ cond acknowledging 0x08 0x00
    → ◌≡◌ {A = Registers} (holding (set (set (set (set (set (set (set (set (set (set (replicate register_count 0) 0x00 0x10) 0x01 0x3F) 0x0B 0xFF) 0x12 v) 0x13 h1) 0x1A h2) 0x1C w) 0x21 1) 0x22 1) 0x23 6))
    (start_registers h1 h2 checking acknowledging)
unfolding start_registers start_rows with_rows laid_at
started h1 h2 v w checking acknowledging p q = rw (p, q)

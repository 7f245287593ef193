-- Where the flag of the last touch stands, a place is not stored.
use mathlib.Core.Path.{◌≡◌, sym, ◌∙◌}
use Prim.Native.Nat.{ℕ}
use borrow.Author.Tests.{eq-eqb}
use Rattle.registers.specs.declared.Registers.{Registers}
use Rattle.registers.specs.Table.{register_at}
use Rattle.registers.specs.Touched.{with_place}

pub place_stays : (registers : Registers) (x y flag : ℕ) → flag ≡ register_at registers 0x05 → flag ≡ 0x5A → registers ≡ with_place registers x y
unfolding with_place
place_stays registers x y flag is-flag set = rw (eq-eqb (register_at registers 0x05) 0x5A (sym is-flag ∙ set))

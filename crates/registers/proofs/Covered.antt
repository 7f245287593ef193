-- A run of registers has a register or leaves it out.
use mathlib.Core.Path.{◌≡◌}
use mathlib.Core.Logic.{◌⊎◌}
use mathlib.Core.Bool.{true, false}
use Prim.Native.Nat.{ℕ, ◌+◌, ◌≤◌, ◌<◌}
use native.Mathlib.Omega.{arith}
use Rattle.std.proofs.lemmas.Bool.Decides.{nat_tests}
use Rattle.registers.specs.Run.{covers}

pub in_run_lem : (address n register : ℕ) → covers address n register ≡ true → (address ≤ register) × (register < address + n)
unfolding covers
in_run_lem address n register is = (grind (arith, nat_tests), grind (arith, nat_tests))

pub out_of_run : (address n register : ℕ) → covers address n register ≡ false → (register < address) ⊎ (address + n ≤ register)
unfolding covers
out_of_run address n register is = grind (arith, nat_tests)

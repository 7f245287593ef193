-- `registers::laying::read_run` meets its contract.
use mathlib.Core.Path.{◌≡◌}
use lib.ListN.{take}
use Rattle.registers.specs.Table.{holding, register_run}
use Rattle.registers.proofs.laying.read_run.Given as goal

abbrev pub invariant-loop-i : goal.invariant-loop-i
invariant-loop-i l = take l.i l.room ≡ register_run (holding l.registers) l.a l.i

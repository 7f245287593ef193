-- `line::arrays::copy_held` meets its contract.
use Prim.Native.Nat.{◌-◌}
use native.Mathlib.Omega.{arith}
use lib.ListN.{drop, length-drop}
use lib.Seq.{length-take-le}
use Rattle.line.proofs.Handing.{copied_over}
use Rattle.line.proofs.arrays.copy_held.Goals as goal

pub returns : goal.returns
returns c =
    let a = c.args in
    copied_over (a.to - a.from) _ a.out.now _
    (length-take-le (a.to - a.from) (drop a.from a.reader.held) (omega (arith, length-drop a.from a.reader.held)))
    c.copy_from_slice.ensures.after
